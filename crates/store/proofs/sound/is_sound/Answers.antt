use Rattle.std.proofs.Common.{◌≡◌, ◌≤◌, true, length, get_or, arith}
use Rattle.std.proofs.lemmas.Grind.{common_steps}
use Rattle.std.proofs.lemmas.Bool.Decides.{nat_tests}
use Rattle.causal.specs.Tests.{both}
use Rattle.store.specs.Offices.{need, settings_ok, sound_store}
use Rattle.store.proofs.Rules.{settings_laid}
use Rattle.store.proofs.sound.is_sound.Goals as goal

pub content_ok-requires : goal.content_ok-requires
content_ok-requires c =
    let set : settings_ok (get_or c.args.store.now 0 0) (get_or c.args.store.now 1 0) (get_or c.args.store.now 2 0) ≡ true = grind (arith, common_steps, nat_tests) in
    let long : need (get_or c.args.store.now 0 0) ≤ length c.args.store.now = grind (arith, common_steps, nat_tests) in
    let s = settings_laid _ _ _ set in
    record { long = long; few = s.0; own = s.1 }

pub returns-then-store-need_of : goal.returns-then-store-need_of
unfolding sound_store both
returns-then-store-need_of c = grind (arith, common_steps, nat_tests)

pub returns-else-store-need_of : goal.returns-else-store-need_of
unfolding sound_store both
returns-else-store-need_of c = grind (arith, common_steps, nat_tests)
