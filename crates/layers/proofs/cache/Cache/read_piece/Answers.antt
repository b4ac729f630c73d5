use Rattle.std.proofs.Common.{◌≡◌, ◌*◌, ◌/◌, ◌%◌, length, refl, subst}
use Rattle.bus.specs.Map.{judged}
use Rattle.bus.specs.declared.kinds.Command.TheVariants.{Read}
use Rattle.layers.specs.Access.{OneRead}
use Rattle.layers.specs.Lines.{held_ins, holds, whole}
use Rattle.layers.proofs.Accesses.{asked_below}
use Rattle.layers.proofs.Holding.{copied, not_held, not_readable}
use Rattle.layers.proofs.cache.Cache.read_piece.Goals as goal

pub returns-in-Some-clause-bytes : goal.returns-in-Some-clause-bytes
returns-in-Some-clause-bytes g c =
    copied (g.T.Target.map c.args.self.now.lower) (c.args.span.start / 16) c.in-Some.line c.in-Some.ensures.line
    c.args.span.start c.args.span.enabled.now c.args.buffer.now c.copy_to.new.buffer refl c.requires.within c.requires.length c.copy_to.auto.buffer c.copy_to.ensures

pub returns-in-None-clause-below : goal.returns-in-None-clause-below
returns-in-None-clause-below g c =
    let m = g.T.Target.map c.args.self.now.lower in
    let a = c.args.span.start in
    let es = c.args.span.enabled.now in
    let x = c.args.self.now.lower in
    let y = c.hold.new.self.lower in
    let z = c.read_below.new.lower in
    asked_below (holds (held_ins c.args.self.now.lines) (a / 16)) (judged m Read (a / 16 * 16) whole)
    (OneRead g.T.Target.map g.T.Target.meter whole (a / 16 * 16) 0 16 x y) (OneRead g.T.Target.map g.T.Target.meter whole (a / 16 * 16) 0 16 x z) (OneRead g.T.Target.map g.T.Target.meter es a 0 (length es) x z) (y ≡ x) (z ≡ x)
    (not_held m c.args.self.now.lines (a / 16) (a / 16 % 8) refl c.args.self.now.sound c.in-None.ensures.line) (not_readable m (a / 16) c.in-None.ensures.line)
    (λ stays. subst (λ u. OneRead g.T.Target.map g.T.Target.meter es a 0 (length es) u z) stays c.read_below.ensures.access) c.hold.ensures.below
