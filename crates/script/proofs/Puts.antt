-- Laws of bytes put into a row: one run behind another is one run. Assumes nothing.
use Rattle.std.proofs.Common.{◌≡◌, ℕ, ◌+◌, ◌≤◌, List, ◌++◌, length, take, drop, append_assoc, length-append, sym, ◌∙◌, arith}
use Rattle.std.proofs.lemmas.List.{drop-drop}
use Rattle.std.proofs.lemmas.List.Edits.{sets, sets-eq}
use borrow.Rule.Slice.PartMut.{put_mid}
use Rattle.causal.proofs.Lists.{sets_append}
use Rattle.script.specs.Puts.{Put}
use Rattle.script.specs.Steps.{Puts}
use Rattle.script.specs.declared.put.Row.{Row}

pub put_then : {row : List ℕ} {at : ℕ} {xs mid : List ℕ} {end : ℕ} {ys after : List ℕ} {stop : ℕ}
    → Put row at xs mid end → Put mid end ys after stop → Put row at (xs ++ ys) after stop
put_then {row} {at} {xs} {mid} {end} {ys} {after} {stop} p q =
    record {
      ends = omega (arith, p.ends, q.ends, length-append xs ys);
      holds = q.holds ∙ rw (p.holds, p.ends) (sym (sets_append row at xs ys));
    }

pub puts_then : {a b c : Row} {xs ys : List ℕ} → Puts a xs b → Puts b ys c → Puts a (xs ++ ys) c
puts_then p q = record { same = q.same ∙ p.same; room = q.room ∙ p.room; put = put_then p.put q.put }

-- a run copied over a part of the row
pub put_part : (row : List ℕ) (at k : ℕ) (xs after : List ℕ) → at + length xs ≤ length row → k ≡ length xs → after ≡ xs → put_mid at k row after ≡ sets row at xs
put_part row at k xs after h n e = rw (n, e, sets-eq xs row at h, ← drop-drop (length xs) at row) (sym (append_assoc (take at row) xs (drop (length xs) (drop at row))))
