use Rattle.std.proofs.Common.{◌&&◌, nat_lt, rules, tests, refl}
use Rattle.std.proofs.lemmas.List.Recursion.{or_is}
use Rattle.protocol.specs.Rules.{due_before}
use Rattle.queue.specs.Waiting.{held, permitted}
use Rattle.queue.proofs.Places.{no_event}
use Rattle.queue.proofs.queue.Queue.due_before.Goals as goal

pub returns : goal.returns
unfolding due_before
returns c = or_is (due_before (permitted c.args.busy.now) c.args.time) (λ e. permitted c.args.busy.now e && nat_lt e.due c.args.time) refl (λ e es. refl) (held c.args.self.now) no_event c.any.result (λ t. search (rules, tests)) (λ f i lt. search (rules, tests))
