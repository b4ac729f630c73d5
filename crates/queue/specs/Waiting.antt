-- The events that wait, which of them may be delivered, and which is taken out first.
use Rattle.std.specs.Prelude.{◌≡◌, Bool, true, false, not, List, ◌++◌, slice_index_or}
use Rattle.protocol.specs.Rules.{Foremost}
use Rattle.protocol.specs.declared.events.Event.{Event}
use Rattle.protocol.specs.declared.events.EventKind.TheVariants.{EndRequest, BeginResponse}
use Rattle.queue.specs.declared.queue.Queue.{Queue}

-- The events that wait, in the order queued.
abbrev pub held : Queue → List Event
held q = q.events.items

-- An END_REQ may always be delivered, a BEGIN_RESP while its port is not busy with an open response.
abbrev pub permitted : (busy : List Bool) → Event → Bool
permitted busy e = elim e.kind [ EndRequest ↦ true | BeginResponse ↦ not (slice_index_or busy e.port false) ]

-- The foremost event e of `before` is taken out, and the others stay in their order.
pub record Taken (can : Event → Bool) (before : List Event) (e : Event) (after : List Event) : Type 0 where
  pub ahead : List Event
  pub behind : List Event
  pub foremost : Foremost can before ahead e behind
  pub others : after ≡ ahead ++ behind
