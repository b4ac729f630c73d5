use Rattle.std.proofs.Common.{◌≡◌, ℕ, eqb, List, [], get_or, Option, Some, None, Bor, refl, ap, ◌∙◌, rules}
use Rattle.std.specs.Option.{option_map, unwrap_or}
use Rattle.std.proofs.lemmas.Option.{unwrap_or-slice_get}
use Rattle.std.proofs.lemmas.Iterator.Consumers.{nth_from_yields_List}
use Rattle.std.proofs.lemmas.Iterator.Splits.{YieldsList-from_slice_split}
use borrow.Author.Tests.{tests}
use Rattle.script.proofs.Cuts.{parts_fields}
use Rattle.script.proofs.fields.field.Goals as goal

now_or : (part : Option (Bor (List ℕ))) (d : Bor (List ℕ)) → (unwrap_or part d).now ≡ unwrap_or (option_map (λ x. x.now) part) d.now
now_or None d = refl
now_or (Some x) d = refl

pub returns : goal.returns
returns c =
    let part = nth_from_yields_List c.nth.result _ c.args.k c.nth.ensures.ran (YieldsList-from_slice_split _ (λ b. eqb b 9) c.args.line.now c.split.ensures.rest c.split.ensures.done c.split.ensures.closure (λ x b q k. search (rules, tests))) in
    ap (λ x. x.now) c.unwrap_or.ensures
    ∙ now_or c.nth.result _
    ∙ ap (λ o. unwrap_or o []) part
    ∙ unwrap_or-slice_get _ c.args.k []
    ∙ ap (λ fs. get_or fs c.args.k []) (parts_fields c.args.line.now)
