-- How many frames a write sends: one for each own entry that is not held, and one. Assumes nothing.
use Rattle.std.proofs.Common.{count_by, not}
use Rattle.std.proofs.lemmas.List.Sums.{sum_by-cons}
use Prim.Native.Nat.{ℕ, ◌+◌, ◌-◌, ◌≤◌}
use mathlib.Core.Path.{◌≡◌, refl, sym, ap₂, ◌∙◌}
use mathlib.Core.Bool.{Bool, true, false, cond}
use mathlib.Core.List.{List, [], ◌∷◌}
use native.Mathlib.Omega.{arith}
use lib.ListN.{length, length-append, length-map}
use Rattle.causal.specs.Lists.{part}
use Rattle.causal.specs.Sets.{is_in}
use Rattle.frame.specs.declared.entry.Entry.{Entry}
use Rattle.frame.specs.Entries.{id_of}
use Rattle.frame.specs.Frames.{framed}
use Rattle.frame.specs.Sessions.{content_of, leave_out}
use Rattle.frame.specs.declared.session.Session.{Session}
use Rattle.store.specs.Offices.{Office, office_of}
use Rattle.office.specs.Calls.{missing, new_entry, sent_of, write_sends}
use Rattle.writing.specs.Writes.{outside}

-- the own entries that are not held
pub outside_is : (held : List ℕ) (es : List Entry) → outside held es ≡ count_by (λ e. not (is_in held (id_of e))) es
unfolding outside
outside_is held [] = refl
outside_is held (e ∷ es) =
    ap₂ (λ (m n : ℕ). m + n) (other (is_in held (id_of e))) (outside_is held es) ∙ sym (sum_by-cons (λ (x : Entry). cond (not (is_in held (id_of x))) 1 0) e es)
  where
    other : (b : Bool) → cond {A = ℕ} b 0 1 ≡ cond {A = ℕ} (not b) 1 0
    other true = refl
    other false = refl

pub outside_le : (held : List ℕ) (es : List Entry) → outside held es ≤ length es
unfolding outside
outside_le held [] = omega arith
outside_le held (e ∷ es) = go (is_in held (id_of e)) (outside_le held es)
  where
    go : (b : Bool) → outside held es ≤ length es → cond b 0 1 + outside held es ≤ length (e ∷ es)
    go true h = omega arith
    go false h = omega arith

outside_missing : (O : Office) (es : List Entry) → outside O.held es ≡ length (missing O es)
unfolding outside leave_out
outside_missing O [] = refl
outside_missing O (e ∷ es) = go (is_in O.held (id_of e)) (outside_missing O es)
  where
    go : (b : Bool) → outside O.held es ≡ length (missing O es) → cond b 0 1 + outside O.held es ≡ length (cond b (missing O es) (e ∷ missing O es))
    go true h = omega (arith, h)
    go false h = omega (arith, h)

pub sends_are : (ws : List ℕ) (s : Session) (plot value : ℕ) (held : List ℕ) (own : List Entry) (m : ℕ) → held ≡ part ws 3 8 → own ≡ (content_of s).own
    → m ≡ outside held own → m + 1 ≡ length (write_sends (office_of ws) (content_of s) plot value)
unfolding office_of sent_of
sends_are ws s plot value held own m h q e =
    let o : m ≡ length (missing (office_of ws) (content_of s).own) = e ∙ (λ i. outside (h i) (q i)) ∙ outside_missing (office_of ws) (content_of s).own in
    omega (
      arith,
      o,
      length-map (sent_of (office_of ws) (content_of s) plot value) (framed (office_of ws).offices ((office_of ws).offices - 2)),
      length-append (missing (office_of ws) (content_of s).own) (new_entry (office_of ws) (content_of s) plot value ∷ []),
    )
