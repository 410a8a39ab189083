-- A call that names an office not in the ring, or a session or token that is not there, or hears where none waits, or gets words that would not be
-- refused with 9, is no call: the state stays, whatever the state and the calls. Assumes nothing.
use Prim.Native.Nat.{ℕ}
use mathlib.Core.Bool.{Bool, cond, false, true}
use mathlib.Core.List.{List, [], ◌∷◌}
use mathlib.Core.Path.{◌∙◌, ◌≡◌, ap, refl}
use lib.Dec.{eqb, ltb}
use Rattle.ring.specs.Run.{Calls, State, Tracked, TrackedToken, at, copy_session, copy_token, copied_session, copied_token, from_token_at, join_at, joining, joint, joint_at, read_at, reading, receive_at, receiving, receiving_words, step, token_reading, token_writing, token_at, write_at, writing}

module _ {A B C : Type 0} (F : Calls A B C) (n : ℕ) (g : State A B C) where
  unless : (t : Bool) (h : State A B C) → t ≡ false → cond t h g ≡ g
  unless t h e = ap (λ (b : Bool). cond b h g) e

  either_way : (t : Bool) (h : State A B C) → h ≡ g → cond t h g ≡ g
  either_way true h e = e
  either_way false h e = refl

  pub record NoOffice (o : ℕ) : Type 0 where
    pub no_writing : (i plot value : ℕ) (row : List ℕ) → step F n g (writing o i plot value row) ≡ g
    pub no_reading : (i plot : ℕ) → step F n g (reading o i plot) ≡ g
    pub no_joint : (i : ℕ) (plots row : List ℕ) → step F n g (joint o i plots row) ≡ g
    pub no_receiving : (row : List ℕ) → step F n g (receiving o row) ≡ g
    pub no_receiving_words : (words row : List ℕ) → step F n g (receiving_words o words row) ≡ g

  pub no_office : (o : ℕ) → ltb o n ≡ false → NoOffice o
  unfolding step
  no_office o e =
      record {
        no_writing = λ i plot value row. unless (ltb o n) _ e;
        no_reading = λ i plot. unless (ltb o n) _ e;
        no_joint = λ i plots row. unless (ltb o n) _ e;
        no_receiving = λ row. unless (ltb o n) _ e;
        no_receiving_words = λ words row. unless (ltb o n) _ e;
      }

  pub record NoSession (i : ℕ) : Type 0 where
    pub no_writing : (o plot value : ℕ) (row : List ℕ) → step F n g (writing o i plot value row) ≡ g
    pub no_reading : (o plot : ℕ) → step F n g (reading o i plot) ≡ g
    pub no_joint : (o : ℕ) (plots row : List ℕ) → step F n g (joint o i plots row) ≡ g
    pub no_token_writing : (row : List ℕ) → step F n g (token_writing i row) ≡ g
    pub no_copy : step F n g (copy_session i) ≡ g
    pub no_join_first : (j m p : ℕ) → step F n g (joining i j m p) ≡ g
    pub no_join_second : (j m p : ℕ) → step F n g (joining j i m p) ≡ g

  pub no_session : (i : ℕ) → at g.sessions i ≡ [] → NoSession i
  unfolding step
  no_session i e =
      record {
        no_writing = λ o plot value row. either_way (ltb o n) _ (ap (λ (rs : List Tracked). write_at F n g o i plot value row rs) e);
        no_reading = λ o plot. either_way (ltb o n) _ (ap (λ (rs : List Tracked). read_at F n g o i plot rs) e);
        no_joint = λ o plots row. either_way (ltb o n) _ (ap (λ (rs : List Tracked). joint_at F n g o i plots row rs) e);
        no_token_writing = λ row. ap (λ (rs : List Tracked). token_at F n g row rs) e;
        no_copy = ap (λ (rs : List Tracked). copied_session F n g rs) e;
        no_join_first = λ j m p. ap (λ (rs : List Tracked). join_at F n g m p rs (at g.sessions j)) e;
        no_join_second = λ j m p. ap (join_at F n g m p (at g.sessions j)) e ∙ none m p (at g.sessions j);
      }
    where
      none : (m p : ℕ) (l : List Tracked) → join_at F n g m p l [] ≡ g
      none m p [] = refl
      none m p (a ∷ l) = refl

  pub record NoToken (t : ℕ) : Type 0 where
    pub no_token_reading : (m p : ℕ) → step F n g (token_reading t m p) ≡ g
    pub no_copy : step F n g (copy_token t) ≡ g

  pub no_token : (t : ℕ) → at g.tokens t ≡ [] → NoToken t
  unfolding step
  no_token t e =
      record {
        no_token_reading = λ m p. ap (λ (rs : List (TrackedToken C)). from_token_at F n g m p rs) e;
        no_copy = ap (λ (rs : List (TrackedToken C)). copied_token F n g rs) e;
      }

  -- "with none waiting, no frame is heard"
  pub none_waits : (o : ℕ) (row : List ℕ) → g.lines o ≡ [] → step F n g (receiving o row) ≡ g
  unfolding step
  none_waits o row e = either_way (ltb o n) _ (ap (λ (fs : List B). receive_at F n g o row fs) e)

  pub not_refused_9 : (o : ℕ) (words row : List ℕ) → eqb (F.on_words (g.stores o) words row).code 9 ≡ false
      → step F n g (receiving_words o words row) ≡ g
  unfolding step
  not_refused_9 o words row e = either_way (ltb o n) _ (unless (eqb (F.on_words (g.stores o) words row).code 9) _ e)
