-- Every step keeps a session sound, and at an office that shows all it has read, whatever its past has is visible there or is its own.
-- Assumes nothing.
use Prim.Native.Nat.{ℕ}
use mathlib.Core.List.Memᴰ
use mathlib.Core.List.{List, Memᴰ, [], ◌++◌, ◌∷◌, append-nil}
use mathlib.Core.Logic.{◌⊎◌, inl, inr, ⊎_elim}
use mathlib.Core.Path.{◌∙◌, ◌≡◌, sym}
use native.Mathlib.Omega.{arith}
use Rattle.mesh.specs.Ring.{Shape}
use Rattle.mesh.specs.Sessions.{IdSession, Law, SoundSession, TakesIn, Writes}
use Rattle.mesh.specs.World.{Inv, Reach, World, Write, self, via}
use Rattle.mesh.proofs.Lists.{Side, left, mem_split, nil_split, one_split, right, side}
use Rattle.mesh.proofs.Without.{without_all, without_in, without_split}

module _ (S : Shape) (wpast : ℕ → ℕ → Type 0) where
  -- a session stays sound while others act
  pub sound_later : (W W' : World) → ((o z : ℕ) → W.visible o z → W'.visible o z) → ((z : ℕ) → W.made z → W'.made z) → (s : IdSession)
      → SoundSession S wpast W s → SoundSession S wpast W' s
  sound_later W W' sh md s J =
      record {
        reads_visible = λ r m. let u = J.reads_visible r m in (u.0, sh u.0 r u.1);
        own_made = λ y m. md y (J.own_made y m);
        own_deps = J.own_deps;
        past_from = J.past_from;
      }

  pub from_dep : (h d q : ℕ) → S.deps h d → Reach S d q → Reach S h q
  from_dep h d q m (self) = via self m
  from_dep h d q m (via {y = y} r m') = via (from_dep h d y m r) m'

  -- what is reached from an own write is an own write, or reached from what was read
  pub own_reached : (W : World) (s : IdSession) → SoundSession S wpast W s → (a q : ℕ) → Memᴰ a s.own → Reach S a q →
      Memᴰ q s.own ⊎ ((r : ℕ) × s.reads r × Reach S r q)
  own_reached W s J a q m (self) = inl m
  own_reached W s J a q m (via {y = y} {d = d} r m') = go (own_reached W s J a y m r)
    where
      dep : (bef aft : List ℕ) → s.own ≡ bef ++ y ∷ aft → s.reads d ⊎ Memᴰ d bef
          → Memᴰ d s.own ⊎ ((r : ℕ) × s.reads r × Reach S r d)
      dep bef aft e (inl i) = inr (d, i, self)
      dep bef aft e (inr i) = inl (rw e (Memᴰ.append_left (y ∷ aft) i))

      go : Memᴰ y s.own ⊎ ((r : ℕ) × s.reads r × Reach S r y) → Memᴰ d s.own ⊎ ((r : ℕ) × s.reads r × Reach S r d)
      go (inl i) = let t = mem_split i in dep t.0 t.1 t.2 (J.own_deps t.0 y t.1 t.2 d m')
      go (inr t) = inr (t.0, t.1, via t.2 m')

  pub reached_visible : (W : World) → Inv S W → (O x z : ℕ) → Reach S x z → W.visible O x → W.visible O z
  reached_visible W I O x z (self) sh = sh
  reached_visible W I O x z (via {y = y} {d = d} r m) sh = I.visible_down O y d (reached_visible W I O x y r sh) m

  -- where O shows all that s has read, all of its past is visible at O or its own
  pub past_known : (W : World) → Inv S W → (s : IdSession) → SoundSession S wpast W s → (O : ℕ) → ((r : ℕ) → s.reads r → W.visible O r) →
      (q : ℕ) → s.past q → W.visible O q ⊎ Memᴰ q s.own
  past_known W I s J O all q b = let t = J.past_from q b in go t.0 t.1 t.2
    where
      go : (a : ℕ) → s.reads a ⊎ Memᴰ a s.own → Reach S a q → W.visible O q ⊎ Memᴰ q s.own
      go a (inl m) r = inl (reached_visible W I O a q r (all a m))
      go a (inr m) r = ⊎_elim (λ i. inr i) (λ t. inl (reached_visible W I O t.0 q t.2 (all t.0 t.1))) (own_reached W s J a q m r)

  -- the past of the writer of what O shows is visible at O
  pub writer_visible : (W : World) → Inv S W → Law S wpast W → (O e q : ℕ) → W.made e → W.visible O e → wpast e q → W.visible O q
  writer_visible W I L O e q m sh w = let t = L e q m w in reached_visible W I O e q (from_dep e t.0 q t.1 t.2) sh

  -- ---- pasts are made

  pub visible_made : (W : World) → Inv S W → (o x : ℕ) → W.visible o x → W.made x
  visible_made W I o x v = I.held_made 0 x (I.visible_held o x 0 (omega (arith, S.size)) v)

  module _ (W : World) (I : Inv S W) (down : (x d : ℕ) → W.made x → S.deps x d → W.made d) where
    reach_made : (x q : ℕ) → W.made x → Reach S x q → W.made q
    reach_made x q m (self) = m
    reach_made x q m (via {y = y} {d = d} r h) = down y d (reach_made x y m r) h

    pub past_made : (s : IdSession) → SoundSession S wpast W s → (q : ℕ) → s.past q → W.made q
    past_made s J q b = let t = J.past_from q b in reach_made t.0 q (base t.0 t.1) t.2
      where
        base : (a : ℕ) → s.reads a ⊎ Memᴰ a s.own → W.made a
        base a (inl h) = let u = J.reads_visible a h in visible_made W I u.0 a u.1
        base a (inr m) = J.own_made a m

    pub writer_made : Law S wpast W → (e q : ℕ) → W.made e → wpast e q → W.made q
    writer_made L e q m h = let t = L e q m h in reach_made t.0 q (down e t.0 m t.1) t.2

  module _ (W : World) (I : Inv S W) (L : Law S wpast W) (s s' : IdSession) (J : SoundSession S wpast W s) (O : ℕ) (R H : ℕ → Type 0)
      (T : TakesIn S wpast W s s' O R H) where
    pub take_visible : ((r : ℕ) → s.reads r → W.visible O r) → (r : ℕ) → s'.reads r → W.visible O r
    take_visible all r m = ⊎_elim (λ i. T.visible r i) (λ i. all r i) (T.reads_from r m)

    handed_made : (x : ℕ) → R x ⊎ Memᴰ x s.own → W.made x
    handed_made x (inl i) = visible_made W I O x (T.visible x i)
    handed_made x (inr m) = J.own_made x m

    pub take_sound : SoundSession S wpast W s'
    take_sound =
        record {
          reads_visible = λ r m. visible (T.reads_from r m);
          own_made = λ y m. J.own_made y (rw T.own_are at m);
          own_deps = λ bef y aft e d m. deps bef d (J.own_deps bef y aft (sym T.own_are ∙ e) d m);
          past_from = λ q b. past q (T.past_are q b);
        }
      where
        visible : {r : ℕ} → R r ⊎ s.reads r → (o : ℕ) × W.visible o r
        visible {r} (inl t) = (O, T.visible r t)
        visible {r} (inr m) = J.reads_visible r m

        deps : (bef : List ℕ) (d : ℕ) → s.reads d ⊎ Memᴰ d bef → s'.reads d ⊎ Memᴰ d bef
        deps bef d (inl m) = inl (T.reads_to d m)
        deps bef d (inr m) = inr m

        base : (d : ℕ) → s.reads d ⊎ Memᴰ d s.own → s'.reads d ⊎ Memᴰ d s'.own
        base d (inl m) = inl (T.reads_to d m)
        base d (inr m) = inr (rw T.own_are m)

        source : (x : ℕ) → R x ⊎ Memᴰ x s.own → s'.reads x ⊎ Memᴰ x s'.own
        source x (inl i) = inl (T.reads_new x i)
        source x (inr m) = inr (rw T.own_are m)

        gain : (x q : ℕ) → W.made x → (q ≡ x) ⊎ wpast x q → Reach S x q
        gain x q m (inl e) = rw e self
        gain x q m (inr w) = let t = L x q m w in from_dep x t.0 q t.1 t.2

        past : (q : ℕ) → s.past q ⊎ ((x : ℕ) × H x × ((q ≡ x) ⊎ wpast x q)) →
            (a : ℕ) × (s'.reads a ⊎ Memᴰ a s'.own) × Reach S a q
        past q (inl b) = let t = J.past_from q b in (t.0, base t.0 t.1, t.2)
        past q (inr t) = (t.0, source t.0 (T.handed t.0 t.1), gain t.0 q (handed_made t.0 (T.handed t.0 t.1)) t.2)

module _ (S : Shape) (wpast : ℕ → ℕ → Type 0) where
  module _ (W W' : World) (I : Inv S W) (L : Law S wpast W) (s s' : IdSession) (J : SoundSession S wpast W s) (C : ℕ) (ds : List ℕ) (e : ℕ)
      (R : Writes S wpast W W' s s' C ds e) where
    read_held : (d : ℕ) → s.reads d → W.held C d
    read_held d m = let u = J.reads_visible d m in I.visible_held u.0 d C R.in_ring u.1

    -- no session's write is ever refused for what it depends on
    pub write_ready : Write S W W' C ds e
    write_ready = record { in_ring = R.in_ring; carried = λ d m. J.own_made d (without_in R.picked d m); ready = ready; does = R.does }
      where
        ready : (bef : List ℕ) (y : ℕ) (aft : List ℕ) → ds ++ e ∷ [] ≡ bef ++ y ∷ aft → (d : ℕ) → S.deps y d → W.held C d ⊎ Memᴰ d bef
        ready bef y aft q d m = go (side ds (e ∷ []) bef y aft q)
          where
            go : Side ds (e ∷ []) bef y aft → W.held C d ⊎ Memᴰ d bef
            go (left aft' p) =
                let r = without_split R.picked bef y aft' p in
                ⊎_elim (λ i. inl (read_held d i)) (λ i. r.3 d i) (J.own_deps r.0 y r.1 r.2 d m)
            go (right bef' p p') =
                let r = one_split e bef' y aft p' in
                let all : bef ≡ ds = p ∙ rw r.0 (append-nil ds) in
                rw all (⊎_elim (λ i. inl (read_held d i)) (λ i. without_all R.picked d i) (R.deps_in d (rw r.1 at m)))

    pub write_law : Law S wpast W'
    write_law x q m w = go (R.does.made_from x m)
      where
        new : wpast e q → (d : ℕ) × S.deps e d × Reach S d q
        new w' = let t = J.past_from q (R.wpast_is q w') in (t.0, R.deps_all t.0 t.1, t.2)

        go : W.made x ⊎ (x ≡ e) → (d : ℕ) × S.deps x d × Reach S d q
        go (inl m') = L x q m' w
        go (inr i) = rw i (new (rw i at w))

    pub write_sound : SoundSession S wpast W' s'
    write_sound =
        record {
          reads_visible = λ r m. let u = J.reads_visible r (R.reads_from r m) in (u.0, R.does.visible_to u.0 r u.1);
          own_made =
              λ y m.
              ⊎_elim (λ i. R.does.made_to y (J.own_made y i))
              (λ (i : Memᴰ y (e ∷ [])). rw (Memᴰ.eq_of_singleton i) R.does.made_new)
              (Memᴰ.append_cases s.own (rw R.own_are at m));
          own_deps =
              λ bef y aft q d m.
              ⊎_elim (λ i. inl (R.reads_to d i)) (λ i. inr i) (deps bef y aft d m (side s.own (e ∷ []) bef y aft (sym R.own_are ∙ q)));
          past_from = λ q b. rw R.own_are (past q (R.past_are q b));
        }
      where
        deps : (bef : List ℕ) (y : ℕ) (aft : List ℕ) (d : ℕ) → S.deps y d → Side s.own (e ∷ []) bef y aft → s.reads d ⊎ Memᴰ d bef
        deps bef y aft d m (left aft' p) = J.own_deps bef y aft' p d m
        deps bef y aft d m (right bef' p p') =
            let r = one_split e bef' y aft p' in
            let all : bef ≡ s.own = p ∙ rw r.0 (append-nil s.own) in
            rw all (R.deps_in d (rw r.1 at m))

        more : (a : ℕ) → s.reads a ⊎ Memᴰ a s.own → s'.reads a ⊎ Memᴰ a (s.own ++ e ∷ [])
        more a (inl m) = inl (R.reads_to a m)
        more a (inr m) = inr (Memᴰ.append_left (e ∷ []) m)

        past : (q : ℕ) → s.past q ⊎ (q ≡ e) → (a : ℕ) × (s'.reads a ⊎ Memᴰ a (s.own ++ e ∷ [])) × Reach S a q
        past q (inl b) = let t = J.past_from q b in (t.0, more t.0 t.1, t.2)
        past q (inr i) = (q, inr (Memᴰ.append_right s.own (Memᴰ.head i)), self)

  -- a session before its first step is sound
  pub blank_sound : (W : World) (s : IdSession) → ((r : ℕ) → ¬ (s.reads r)) → s.own ≡ [] → ((q : ℕ) → ¬ (s.past q)) → SoundSession S wpast W s
  blank_sound W s no_reads no_own no-past =
      record {
        reads_visible = λ r m. absurd (no_reads r m);
        own_made = λ y m. absurd (Memᴰ.not-nil (rw no_own at m));
        own_deps = λ bef y aft e d m. absurd (nil_split bef y aft (rw no_own at e));
        past_from = λ q b. absurd (no-past q b);
      }
