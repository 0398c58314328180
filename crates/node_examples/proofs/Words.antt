-- The words of definitions and lower crates that these proofs speak in, each from where it is at home.
pub use Rattle.std.proofs.Common.{List, [], refl, replicate, ◌++◌, ◌∷◌, ◌≡◌}
pub use Rattle.node_examples.specs.Openings.{host_activates, host_activates_again_told, host_activates_told, host_allows, host_allows_told, host_begins}
pub use Rattle.node_examples.specs.Openings.{host_begins_told, pipe_is_made, pipe_is_made_told, pipe_opens, pipe_opens_told}
