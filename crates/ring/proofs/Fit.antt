-- A run on contents as a world of ids, and the invariant. E k is what the id k stands for, P k its writer's past. Assumes nothing.
use Rattle.std.proofs.Common.{Some}
use Prim.Native.Nat.{ℕ, ◌*◌, ◌+◌, ◌-◌, ◌/◌, ◌<◌, ◌≤◌, suc, zero}
use mathlib.Core.Bool.{true}
use mathlib.Core.List.Memᴰ
use mathlib.Core.List.{List, Memᴰ, [], ◌∷◌, map}
use mathlib.Core.Logic.{◌≢◌, ◌⊎◌, inl, inr, ⊎_elim}
use mathlib.Core.Path.{◌∙◌, ◌≡◌, ap, refl, sym}
use native.Mathlib.Omega.{arith}
use lib.ListN.{length, set}
use borrow.Author.Tests.{eq-eqb, le-ltb, lt-ltb, ne_eqb}
use Rattle.causal.specs.Sets.{IdSet, has}
use Rattle.causal.proofs.Tests.{eq_or_ne, lt_or_le}
use Rattle.frame.specs.Entries.{blank_entry, entry_ok, id_of}
use Rattle.frame.specs.Frames.{ring_ok}
use Rattle.frame.specs.Sessions.{Content, session_ok}
use Rattle.frame.specs.declared.entry.Entry.{Entry}
use Rattle.frame.specs.declared.entry.Frame.{Frame}
use Rattle.store.specs.Offices.{Found, Office}
use Rattle.store.proofs.Best.{Over}
use Rattle.mesh.specs.Ring.{Shape}
use Rattle.mesh.specs.Sessions.{IdSession, Law, SoundSession}
use Rattle.mesh.specs.World.{Inv, World}
use Rattle.ring.specs.Run.{Event, Made, State, Tracked, TrackedToken, at, next_of, upd}

-- ---- next, and update at a place

pub next_step : (n o : ℕ) → suc o < n → next_of n o ≡ suc o
unfolding next_of
next_step n o h = rw (lt-ltb (suc o) n h)

pub next_wrap : (n o : ℕ) → suc o ≡ n → next_of n o ≡ 0
unfolding next_of
next_wrap n o h = rw (le-ltb (suc o) n (omega arith))

pub next_other : (n o : ℕ) → 2 ≤ n → o < n → o ≡ next_of n o → ⊥
next_other n o two l e = ⊎_elim (λ (h : suc o < n). step h) (λ (h : n ≤ suc o). wrap h) (lt_or_le (suc o) n)
  where
    step : suc o < n → ⊥
    step h = let q : o ≡ suc o = e ∙ next_step n o h in omega arith

    wrap : n ≤ suc o → ⊥
    wrap h = let q : o ≡ 0 = e ∙ next_wrap n o (omega arith) in omega arith

module _ {A : Type 0} where
  pub upd_same : (f : ℕ → A) (i : ℕ) (a : A) → upd f i a i ≡ a
  unfolding upd
  upd_same f i a = rw (eq-eqb i i refl)

  pub upd_other : (f : ℕ → A) (i : ℕ) (a : A) (o : ℕ) → o ≢ i → upd f i a o ≡ f o
  unfolding upd
  upd_other f i a o ne = rw (ne_eqb o i ne)

  pub upd_case : (Q : A → Type 0) (f : ℕ → A) (i : ℕ) (a : A) (o : ℕ) → (o ≡ i → Q a) → (o ≢ i → Q (f o)) → Q (upd f i a o)
  upd_case Q f i a o new old =
      ⊎_elim (λ (e : o ≡ i). rw (e, upd_same f i a) (new e)) (λ (e : o ≡ i → ⊥). rw (upd_other f i a o e) (old e)) (eq_or_ne o i)

  pub upd_said : (Q : A → Type 0) (f : ℕ → A) (i : ℕ) (a : A) (o : ℕ) → Q (upd f i a o) → ((o ≡ i) × Q a) ⊎ ((o ≢ i) × Q (f o))
  upd_said Q f i a o h =
      ⊎_elim (λ (e : o ≡ i). inl (e, rw (e, upd_same f i a) at h)) (λ (e : o ≡ i → ⊥). inr (e, rw (upd_other f i a o e) at h)) (eq_or_ne o i)

  pub upd_self : (f : ℕ → A) (i : ℕ) → upd f i (f i) ≡ f
  upd_self f i = λ j o. at o j
    where
      at : (o : ℕ) → upd f i (f i) o ≡ f o
      at o = upd_case (λ (a : A). a ≡ f o) f i (f i) o (λ (e : o ≡ i). ap f (sym e)) (λ e. refl)

  -- members of a list with one element changed
  pub mem_set : (l : List A) (i : ℕ) (a x : A) → Memᴰ x (set l i a) → (x ≡ a) ⊎ Memᴰ x l
  mem_set [] i a x m = absurd (Memᴰ.not-nil m)
  mem_set (y ∷ l) zero a x m = ⊎_elim (λ e. inl e) (λ j. inr (Memᴰ.tail j)) (Memᴰ.cases_cons m)
  mem_set (y ∷ l) (suc i) a x m =
      ⊎_elim (λ e. inr (Memᴰ.head e)) (λ j. ⊎_elim (λ e. inl e) (λ k. inr (Memᴰ.tail k)) (mem_set l i a x j)) (Memᴰ.cases_cons m)

  pub mem_at : (l : List A) (i : ℕ) (x : A) → Memᴰ x (at l i) → Memᴰ x l
  unfolding at
  mem_at [] i x m = m
  mem_at (y ∷ l) zero x m = ⊎_elim (λ e. Memᴰ.head e) (λ j. absurd (Memᴰ.not-nil j)) (Memᴰ.cases_cons m)
  mem_at (y ∷ l) (suc i) x m = Memᴰ.tail (mem_at l i x m)

-- ---- the world

abbrev pub shape : (n : ℕ) → 2 ≤ n → (ℕ → Entry) → Shape
shape n two E =
    record {
      n = n;
      top = n - 2;
      size = omega arith;
      next = next_of n;
      next_step = next_step n;
      next_wrap = next_wrap n;
      deps = λ k d. has (E k).deps d ≡ 1;
    }

abbrev pub wpast : (ℕ → List ℕ) → ℕ → ℕ → Type 0
wpast P k q = Memᴰ q (P k)

abbrev pub ids : List Made → List ℕ
ids l = map (λ (m : Made). id_of m.entry) l

abbrev pub frame_id : Frame → ℕ × ℕ
frame_id f = (id_of f.entry, f.hops)

abbrev pub Sys : Type 0
Sys = State Office Frame Content

abbrev pub world : Sys → World
world g =
    record {
      made = λ k. Memᴰ k (ids g.log);
      held = λ o k. has (g.stores o).held k ≡ 1;
      visible = λ o k. has (g.stores o).visible k ≡ 1;
      line = λ o. map frame_id (g.lines o);
    }

abbrev pub seen : Content → List ℕ → IdSession
seen s past = record { reads = λ k. has s.read k ≡ 1; own = map id_of s.own; past = λ q. Memᴰ q past }

-- ---- the invariant

-- the id k is made, so E k keeps the rules
pub record Good (n p : ℕ) (E : ℕ → Entry) (k : ℕ) : Type 0 where
  pub ok : entry_ok n p (E k) ≡ true
  pub id_is : id_of (E k) ≡ k
  pub clock8 : length (E k).clock ≡ 8
  pub deps_set : IdSet (E k).deps

pub record OfficeFit (n p : ℕ) (E : ℕ → Entry) (o : ℕ) (O : Office) : Type 0 where
  pub offices : O.offices ≡ n
  pub own : O.own ≡ o
  pub plots : O.plots ≡ p
  pub held_set : IdSet O.held
  pub visible_set : IdSet O.visible
  pub entry_is : (k : ℕ) → has O.held k ≡ 1 → O.entry k ≡ E k
  pub entry_none : (k : ℕ) → has O.held k ≡ 0 → O.entry k ≡ blank_entry
  pub gap : (s : ℕ) → s < 31 → has O.held (32 * o + (s + 1)) ≡ 1 → has O.held (32 * o + s) ≡ 1

pub record SessionFit (E : ℕ → Entry) (s : Content) : Type 0 where
  pub clock8 : length s.clock ≡ 8
  pub read_set : IdSet s.read
  pub own_is : (e : Entry) → Memᴰ e s.own → e ≡ E (id_of e)

pub record EventFit (E : ℕ → Entry) (P : ℕ → List ℕ) (log : List Made) (v : Event) : Type 0 where
  pub not10 : v.code ≡ 10 → ⊥
  pub not11 : v.code ≡ 11 → ⊥
  pub not12 : v.code ≡ 12 → ⊥
  pub reads : (q : ℕ) (f : Found) → Memᴰ (q, f) v.reads → (k : ℕ) → Memᴰ k v.past → (E k).plot ≡ q → Over f (E k)
  pub handed : (q : ℕ) (e : Entry) → Memᴰ (q, Some e) v.reads → (e.plot ≡ q) × (e ≡ E (id_of e)) × Memᴰ (id_of e) (ids log)
  pub counted : (q : ℕ) (e : Entry) → Memᴰ (q, Some e) v.reads
      → Memᴰ (id_of e) v.past × ((k : ℕ) → Memᴰ k (P (id_of e)) → Memᴰ k v.past)
  pub past_made : (k : ℕ) → Memᴰ k v.past → Memᴰ k (ids log)

pub record Agrees (E : ℕ → Entry) (P : ℕ → List ℕ) (log : List Made) : Type 0 where
  pub entry : (m : Made) → Memᴰ m log → E (id_of m.entry) ≡ m.entry
  pub past : (m : Made) → Memᴰ m log → P (id_of m.entry) ≡ m.past

pub record TrackedFit (n : ℕ) (two : 2 ≤ n) (E : ℕ → Entry) (P : ℕ → List ℕ) (W : World) (s : Content) (past : List ℕ) : Type 0 where
  pub sound : SoundSession (shape n two E) (wpast P) W (seen s past)
  pub fit : SessionFit E s

pub record Whole (n p : ℕ) (two : 2 ≤ n) (E : ℕ → Entry) (P : ℕ → List ℕ) (g : Sys) : Type 0 where
  pub inv : Inv (shape n two E) (world g)
  pub law : Law (shape n two E) (wpast P) (world g)
  pub offices : (o : ℕ) → OfficeFit n p E o (g.stores o)
  pub good : (k : ℕ) → Memᴰ k (ids g.log) → Good n p E k
  pub home : (k : ℕ) → Memᴰ k (ids g.log) → has (g.stores (k / 32)).held k ≡ 1
  pub lines : (o : ℕ) (f : Frame) → Memᴰ f (g.lines o) → (f.offices ≡ n) × (f.entry ≡ E (id_of f.entry))
  pub sessions : (r : Tracked) → Memᴰ r g.sessions → TrackedFit n two E P (world g) r.session r.past
  pub tokens : (r : TrackedToken Content) → Memᴰ r g.tokens → TrackedFit n two E P (world g) r.token r.past
  pub tokens_ok : (r : TrackedToken Content) → Memᴰ r g.tokens
      → (ring_ok r.token.offices 64 ≡ true) × (session_ok r.token.offices 64 r.token ≡ true)
  pub events : (v : Event) → Memᴰ v g.events → EventFit E P g.log v
