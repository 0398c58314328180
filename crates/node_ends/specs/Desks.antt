-- Notices that a node keeps of its ends: their ages, and the creations that wait for them.
use Rattle.std.specs.Prelude.{ℕ, ◌+◌, ◌<◌, nat_le, Bool, true, false, List, is_some, Option, Some, None, option_map}
use Rattle.std.specs.List.{list_any}
use Rattle.std.specs.Option.{option_map_or}
use Rattle.node_machine.specs.Parts.{Port, Creation, Notice}
use Rattle.node_machine.specs.Parts.About.{Forgotten as IsForgotten}
use Rattle.node_machine.specs.Controller.{asked_at}
use Rattle.node_deeds.specs.declared.desks.About.TheVariants.{Forgotten}
use Rattle.node_deeds.specs.declared.desks.Unanswered.{Unanswered}

-- a notice waits for its answer at some end
abbrev pub have_notices : List Port → Bool
have_notices ports = list_any (λ (p : Port). is_some p.desk.notice) ports

-- a notice that is one tick older
abbrev pub grown_older : Option Unanswered → Option Unanswered
grown_older None = None
grown_older (Some n) = Some (record n { age = n.age + 1 })

-- the age of the notice that waits at an end, where there is one
abbrev pub age_at : Option Port → ℕ
age_at port = option_map_or (λ (p : Port). option_map_or (λ (n : Notice). n.age) p.desk.notice 0) port 0

-- such a notice may grow older by a tick
abbrev pub IsYoung : Option Port → Type 0
IsYoung port = age_at port < 255

-- the notice that is kept once its session has ended
abbrev pub kept_notice : Bool → Option Unanswered → Option Unanswered
kept_notice true notice = None
kept_notice false notice = notice

-- its hundredth tick came
abbrev pub has_hundred_ticks : Option Unanswered → Bool
has_hundred_ticks None = false
has_hundred_ticks (Some n) = nat_le 100 n.age

-- the asker of a creation that waits at an end, where there is one
abbrev pub asker_at : Option Port → Option ℕ
asker_at None = None
asker_at (Some p) = option_map (λ (c : Creation). c.asker) (asked_at p)

-- a notice of a creation that was forgotten
abbrev pub as_forgotten : Option Unanswered → Option Unanswered
as_forgotten None = None
as_forgotten (Some n) = Some (record n { about = Forgotten })

-- an end whose notice is one of a creation that was forgotten
abbrev pub forgotten_at : Port → Port
forgotten_at p =
    record p { desk = record p.desk { notice = option_map_or (λ (n : Notice). Some (record n { about = IsForgotten })) p.desk.notice None } }
