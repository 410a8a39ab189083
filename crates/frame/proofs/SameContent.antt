-- Entries of one name with the same content are the same entry: refusal 11, "it is held with other content", leaves no part of the content
-- out: plot, value, clock and dependencies. Whether two have the same content does not depend on which is named first. Assumes nothing.
use Rattle.std.proofs.Common.{◌≡◌, ℕ, true, eqb, List, sym, refl, ap, ◌∙◌, eq-eqb, eqb-true}
use Rattle.causal.specs.Lists.{eq_words}
use Rattle.causal.proofs.Lists.{eq_words_eq, eq_words_refl}
use Rattle.causal.proofs.Tests.{both_intro, both_true}
use Rattle.frame.specs.Entries.{same_content}
use Rattle.frame.specs.declared.entry.Entry.{Entry}

-- "a name (office, serial) and, as its content, a plot, a value, a clock and a set of names it depends on"
entry_is : (e f : Entry) → e.office ≡ f.office → e.serial ≡ f.serial → e.plot ≡ f.plot → e.value ≡ f.value → e.clock ≡ f.clock
    → e.deps ≡ f.deps → e ≡ f
entry_is e f o s p v c d i = record { office = o i; serial = s i; plot = p i; value = v i; clock = c i; deps = d i }

pub same_content_is : (e f : Entry) → same_content e f ≡ true → e.office ≡ f.office → e.serial ≡ f.serial → e ≡ f
unfolding same_content
same_content_is e f h o s =
    let a = both_true (eqb e.plot f.plot) _ h in
    let b = both_true (eqb e.value f.value) _ a.1 in
    let c = both_true (eq_words e.clock f.clock) _ b.1 in
    entry_is e f o s (eqb-true e.plot f.plot a.0) (eqb-true e.value f.value b.0) (eq_words_eq e.clock f.clock c.0)
    (eq_words_eq e.deps f.deps c.1)

pub same_refl : (e : Entry) → same_content e e ≡ true
unfolding same_content
same_refl e =
    both_intro _ _ (eq-eqb e.plot e.plot refl)
    (both_intro _ _ (eq-eqb e.value e.value refl) (both_intro _ _ (eq_words_refl e.clock) (eq_words_refl e.deps)))

pub same_swap : (e f : Entry) → same_content e f ≡ true → same_content f e ≡ true
unfolding same_content
same_swap e f h =
    let x = both_true (eqb e.plot f.plot) _ h in
    let y = both_true (eqb e.value f.value) _ x.1 in
    let z = both_true (eq_words e.clock f.clock) (eq_words e.deps f.deps) y.1 in
    both_intro _ _ (eq-eqb f.plot e.plot (sym (eqb-true e.plot f.plot x.0)))
    (both_intro _ _ (eq-eqb f.value e.value (sym (eqb-true e.value f.value y.0)))
    (both_intro _ _ (words e.clock f.clock z.0) (words e.deps f.deps z.1)))
  where
    words : (l m : List ℕ) → eq_words l m ≡ true → eq_words m l ≡ true
    words l m q = ap (eq_words m) (eq_words_eq l m q) ∙ eq_words_refl m
