-- What is read from words is sane, whatever the words are. Assumes nothing.
use Rattle.std.proofs.Common.{◌≡◌, ℕ, zero, suc, ◌+◌, List, take, drop, ⊎_elim}
use mathlib.Core.List.Memᴰ
use mathlib.Core.List.{Memᴰ}
use Rattle.causal.specs.Lists.{part}
use Rattle.frame.specs.Frames.{count_in, frame_of, offices_in}
use Rattle.frame.specs.Sessions.{SaneContent, SaneEntry}
use Rattle.frame.specs.Tokens.{content_from, frame_length, own_from, token_offices, token_owns, token_reads}
use Rattle.frame.specs.declared.entry.Entry.{Entry}
use Rattle.frame.proofs.Words.{clock_from_eight, ids_from_set}

pub frame_sane : (ws : List ℕ) → SaneEntry (frame_of ws).entry
unfolding frame_of
frame_sane ws = record { clock8 = clock_from_eight ws 3 (offices_in ws); deps_set = ids_from_set (part ws (3 + offices_in ws) (count_in ws)) }

owns_sane : (k n : ℕ) (ws : List ℕ) (e : Entry) → Memᴰ e (own_from k n ws) → SaneEntry e
unfolding own_from
owns_sane zero n ws e m = absurd (Memᴰ.not-nil m)
owns_sane (suc k) n ws e m =
    ⊎_elim (λ (q : e ≡ (frame_of (take (frame_length n ws) ws)).entry). rw q (frame_sane (take (frame_length n ws) ws)))
    (λ i. owns_sane k n (drop (frame_length n ws) ws) e i) (Memᴰ.cases_cons m)

pub token_sane : (ws : List ℕ) → SaneContent (content_from ws)
unfolding content_from
token_sane ws =
    record {
      clock8 = clock_from_eight ws 1 (token_offices ws);
      read = ids_from_set (part ws (1 + token_offices ws) (token_reads ws));
      own = λ e m. owns_sane (token_owns ws) (token_offices ws) (drop (1 + token_offices ws + token_reads ws) ws) e m;
    }
