use Rattle.std.proofs.Common.{ltb, ◌∙◌, rules}
use Rattle.std.specs.Char.{digit_value}
use Rattle.std.proofs.lemmas.Iterator.{YieldsList-from_slice}
use Rattle.std.proofs.lemmas.Iterator.Search.{all_from_yields_List}
use borrow.Author.Tests.{tests}
use Rattle.script.proofs.Numerals.{all_pass}
use Rattle.script.proofs.forms.all_hexadecimal.Goals as goal

pub returns : goal.returns
returns c =
    all_from_yields_List (λ b. ltb (digit_value b) 16) _ _ _ c.all.ensures.ran (YieldsList-from_slice c.args.field.now cc) (λ x b q k. search (rules, tests))
    ∙ all_pass 16 c.args.field.now
