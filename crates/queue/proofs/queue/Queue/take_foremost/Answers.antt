use Rattle.std.proofs.Common.{rules, tests, ◌≡◌, ◌+◌, false, refl, sym, subst, take, drop, get_or}
use Rattle.std.specs.Ordering.{is_lt, nat_cmp, ordering_then}
use Rattle.std.proofs.lemmas.Bool.{false_from_ne_true}
use Rattle.protocol.specs.Rules.{Foremost}
use Rattle.queue.specs.Waiting.{held, permitted}
use Rattle.queue.proofs.Places.{Places, at_each, foremost_at}
use Rattle.queue.proofs.queue.Queue.take_foremost.Goals as goal

pub returns-in_err-place : goal.returns-in_err-place
returns-in_err-place c =
    let p = c.min_by_key.ensures.runs.0 in
    let q = (c.filter.ensures.runs p p.seen c.min_by_key.ensures.runs.1).0 in
    let places : Places (permitted c.args.busy.now) (held c.args.self.now) p.items q.items = search (rules, tests) in
    simp c.from_residual.ensures ((λ k d lt. false_from_ne_true _ (at_each places (λ k e. ⊥) (search (rules, tests)) k d lt)), refl)

pub returns : goal.returns
returns c =
    let can = permitted c.args.busy.now in
    let events = held c.args.self.now in
    let place = c.in_ok-place.place in
    let e = c.in_ok-place.field-0-1.now in
    let p = c.min_by_key.ensures.runs.0 in
    let q = (c.filter.ensures.runs p p.seen c.min_by_key.ensures.runs.1).0 in
    let places : Places can events p.items q.items = search (rules, tests) in
    let least = at_each places (λ k x. is_lt (ordering_then (nat_cmp x.due e.due) (nat_cmp k place)) ≡ false) (search (rules, tests)) in
    let there : e ≡ get_or events place e = search rules in
    let same : c.remove.result ≡ e = search (rules, tests) in
    record {
      ahead = take place events;
      behind = drop (place + 1) events;
      foremost = subst (λ x. Foremost can events (take place events) x (drop (place + 1) events)) (sym same) (foremost_at can events place e (search rules) there (search rules) least);
      others = search (rules, tests);
    }
