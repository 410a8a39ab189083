use mathlib.Core.Path.{◌∙◌, ap, refl}
use Rattle.std.specs.Result.{result_unwrap_or}
use Rattle.player.proofs.Started as st
use Rattle.player.proofs.opening.open_ring.Goals as goal

pub returns : goal.returns
returns c = let p = c.open_at in
    let q = c.open_at-2 in
    let r = c.open_at-3 in
    let f = c.fresh_session in
    λ lines long.
    st.ring_opened c.args.stores.now p.new.stores q.new.stores r.new.stores _ _ _ c.requires p.ensures.0 q.ensures.0 r.ensures.0 refl refl refl p.ensures.1 q.ensures.1 r.ensures.1 c.unwrap_or-session.result (c.unwrap_or-session.ensures ∙ ap (result_unwrap_or f.result) c.blank_session.ensures ∙ f.ensures.1 ∙ st.fresh_is) lines long
