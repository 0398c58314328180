-- The words of definitions and lower crates that these proofs speak in, each from where it is at home.
pub use Rattle.std.proofs.Common.{List, None, [], ap, arith, refl, subst, suc, sym, ℕ, ◌++◌, ◌+◌, ◌∙◌, ◌∷◌, ◌≡◌}
pub use Rattle.hci_store.specs.Stored.{Stored}
pub use Rattle.node_core.proofs.Asking.{begins_at_rest}
pub use Rattle.node_core.specs.Bringing.{Brings}
pub use Rattle.node_core.specs.Running.{BeginsStep, HasStepped, RunsAs}
pub use Rattle.node_core.specs.declared.node.Node.{Node}
pub use Rattle.node_ends.specs.Ends.{frame_at, has_sent}
pub use Rattle.node_machine.specs.Carrying.{port_at, with_port}
pub use Rattle.node_machine.specs.Node.{steps}
pub use Rattle.node_machine.specs.Node.NodeInput.{AtEnd}
pub use Rattle.node_machine.specs.Parts.{Core, Port, Work}
pub use Rattle.swp_base.specs.declared.link_terms.Role.TheVariants.{Clf, Uicc}
pub use Rattle.trace_model.specs.declared.entry.Entry.{Entry}
pub use Rattle.worked_nodes.specs.FramesOut.{AreHandedOn, due_as_far_as}
