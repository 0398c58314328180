-- What is kept of a link where its frames go out at one end.
use Rattle.std.specs.Prelude.{◌≡◌, ℕ}
use Rattle.circular_buffer.specs.Buffer.{Buffer}
use Rattle.link_laws.specs.messages.Links.{Link}
use Rattle.link_wires.specs.declared.wire.Flying.{Flying}
use Rattle.link_wires.specs.Wires.{WireStandsFor}

-- The frames on the way from the controller's end of a link, the greatest number of an RSET that it put there, and how many RSETs were
-- put on the link.
pub record GoesOutOf (emitted : ℕ) (wire : Buffer Flying) (resets : ℕ) (l : Link) : Type 0 where
  pub emitted_is : emitted ≡ l.controller.emitted
  pub wire_is : WireStandsFor wire l.to_host
  pub count : resets ≡ l.resets
