use native.Mathlib.Omega.{arith}
use mathlib.Core.Path.{◌∙◌, refl, sym}
use Rattle.std.proofs.lemmas.Grind.{common_steps}
use Rattle.causal.specs.Codes.{check}
use Rattle.frame.specs.Refusals.{code_of, number_of}
use Rattle.store.proofs.Rules.{laid}
use Rattle.office.specs.Decide.{start_code}
use Rattle.office.proofs.code.start.Goals as goal

pub returns-then-not-is_sound : goal.returns-then-not-is_sound
unfolding start_code code_of number_of check
returns-then-not-is_sound c = let e = sym c.is_sound.ensures ∙ c.if-not-is_sound.true in rw e refl

pub bounds-store-0 : goal.bounds-store-0
bounds-store-0 c = omega (arith, (laid c.args.store.now (sym c.is_sound.ensures ∙ c.if-not-is_sound.false)).long)

pub bounds-store-2 : goal.bounds-store-2
bounds-store-2 c = omega (arith, (laid c.args.store.now (sym c.is_sound.ensures ∙ c.if-not-is_sound.false)).long)

pub returns-then-not-session_ok : goal.returns-then-not-session_ok
unfolding start_code code_of number_of check
returns-then-not-session_ok c = grind (arith, common_steps)

pub returns : goal.returns
unfolding start_code code_of number_of check
returns c = grind (arith, common_steps)
