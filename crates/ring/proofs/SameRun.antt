-- The run on words is the run on contents. Assumes nothing.
use Prim.Native.Nat.{ℕ, ◌<◌, ◌≤◌, suc, zero}
use mathlib.Core.Bool.{Bool, cond, false, true}
use mathlib.Core.List.Memᴰ
use mathlib.Core.List.{List, Memᴰ, [], ◌++◌, ◌∷◌, map, map-append}
use mathlib.Core.Logic.{⊎_elim}
use mathlib.Core.Path.{◌∙◌, ◌≡◌, ap, refl, sym}
use native.Mathlib.Omega.{arith}
use lib.Dec.{eqb, ltb}
use lib.ListN.{length, set}
use borrow.Author.Tests.{eqb-true, ltb-true}
use Rattle.causal.specs.Codes.{check}
use Rattle.causal.proofs.Tests.{eq_or_ne}
use Rattle.frame.specs.Entries.{entry_ok, id_of}
use Rattle.frame.specs.Frames.{accepts, frame_of, frame_ok, frame_words, ring_ok}
use Rattle.frame.specs.Sessions.{Content, SaneContent, SaneEntry, fresh_content, session_ok}
use Rattle.frame.specs.TokenCalls.{read_token_code, write_token_code, write_token_row}
use Rattle.frame.specs.Tokens.{content_from, token_words}
use Rattle.frame.specs.declared.entry.Entry.{Entry}
use Rattle.frame.specs.declared.entry.Frame.{Frame}
use Rattle.frame.proofs.Back.{frame_accepted, frame_back}
use Rattle.frame.proofs.Entries.{facts_frame}
use Rattle.frame.proofs.Tokens.{token_accepted, token_back}
use Rattle.joining.specs.Joins.{join_code, joined}
use Rattle.store.specs.Offices.{Office, need, office_of, sound_store, store_words}
use Rattle.store.proofs.Keep.{sound_store_lem}
use Rattle.store.proofs.StoreBack.{Canon, store_again, store_back, store_long}
use Rattle.office.specs.Calls.{Result, fresh_code, joint_on, parsed, read_joint, read_on, read_plot, receive, receive_on, stored, worded, write, write_on}
use Rattle.office.proofs.Grows.{Grows, joint_grows, read_grows, receive_grows, write_grows}
use Rattle.office.proofs.Refused.{joint_refused, parsed_refused, read_refused, receive_refused, write_refused}
use Rattle.mesh.proofs.Carry.{line_made}
use Rattle.ring.specs.Holds.{Same, token_on}
use Rattle.ring.specs.Run.{Call, Event, Made, State, Tracked, TrackedToken, answered, at, copy_session, copy_token, copied_session, copied_token, event_of, fresh, from_token, from_token_at, gained, join_at, join_by, joining, joint, joint_at, last_of, next_of, noted_event, over_contents, over_words, read_at, read_by, read_in, reading, receive_at, receive_by, received, receiving, receiving_words, refused_by, start_by, step, together, token_reading, token_writing, token_at, token_by, turned_by, upd, with_session, words_by, write_at, write_by, writer_past, writing, wrote}
use Rattle.ring.proofs.Base.{fit_sane}
use Rattle.ring.proofs.Fit.{Sys, Whole, frame_id, ids, mem_at, shape, upd_other, upd_same, upd_self, world}
use Rattle.ring.proofs.Log.{entry_in}
use Rattle.ring.proofs.Sounds.{canon, office_sound}
use Rattle.ring.proofs.Steps.{Ok, ok_whole}

abbrev pub WState : Type 0
WState = State (List ℕ) (List ℕ) (List ℕ)

upd_map : {A B : Type 0} (h : B → A) (f : ℕ → A) (f' : ℕ → B) → ((q : ℕ) → f q ≡ h (f' q)) → (i : ℕ) (a : A) (b : B) → a ≡ h b → (q : ℕ)
    → upd f i a q ≡ h (upd f' i b q)
unfolding upd
upd_map h f f' e i a b x q = go (eqb q i)
  where
    go : (t : Bool) → cond t a (f q) ≡ h (cond t b (f' q))
    go true = x
    go false = e q

pub at_map : {A B : Type 0} (h : A → B) (l : List A) (i : ℕ) → at (map h l) i ≡ map h (at l i)
unfolding at
at_map h [] i = refl
at_map h (x ∷ l) zero = refl
at_map h (x ∷ l) (suc i) = at_map h l i

module _ (n p : ℕ) (two : 2 ≤ n) (eight : n ≤ 8) (one : 1 ≤ p) (p64 : p ≤ 64) where
  module _ (E : ℕ → Entry) (P : ℕ → List ℕ) (c : Sys) (w : Whole n p two E P c) where
    -- a frame that waits is accepted as what it is
    module _ (o : ℕ) (f : Frame) (m : Memᴰ f (c.lines o)) where
      in_line : Memᴰ (id_of f.entry, f.hops) ((world c).line o)
      in_line = Memᴰ.map frame_id m

      made_f : Memᴰ (id_of f.entry) (ids c.log)
      made_f = line_made (shape n two E) (world c) w.inv o (id_of f.entry) f.hops in_line

      is_f : f.entry ≡ E (id_of f.entry)
      is_f = (w.lines o f m).1

      valid_f : frame_ok n p f ≡ true
      valid_f =
          facts_frame n p f
          (record {
            ring = (w.lines o f m).0;
            low = two;
            high = eight;
            hops_ok = w.inv.low o (id_of f.entry) f.hops in_line;
            entry = ap (entry_ok n p) is_f ∙ (w.good (id_of f.entry) made_f).ok;
          })

      sane_f : SaneEntry f.entry
      sane_f =
          let G = w.good (id_of f.entry) made_f in
          record { clock8 = ap (λ (e : Entry). length e.clock) is_f ∙ G.clock8; deps_set = rw is_f G.deps_set }

      pub frame_reads : frame_of (frame_words f) ≡ f
      frame_reads = frame_back n p f p64 valid_f sane_f

      pub accepts_frame : accepts n p (frame_words f) ≡ true
      accepts_frame = frame_accepted n p p n f p64 valid_f sane_f ∙ valid_f

  -- ---- one step

  module _ (rows : ℕ → List ℕ) (enough : (o : ℕ) → o < n → need n ≤ length (rows o)) (g : WState) (c : Sys) (S : Same n rows g c)
      (k : Ok n p two eight c) where
    w : Whole n p two (entry_in c.log) (writer_past c.log) c
    w = ok_whole n p two eight c k

    can : (o : ℕ) → o < n → Canon n (c.stores o)
    can o lt = canon n p two eight one p64 (entry_in c.log) (writer_past c.log) c w o lt

    pub long : (o : ℕ) → o < n → need n ≤ length (g.stores o)
    long o lt = rw (S.words o lt) (store_long n (c.stores o) (can o lt) (rows o) (enough o lt))

    pub sound : (o : ℕ) → o < n → sound_store (g.stores o) ≡ true
    sound o lt =
        let T = office_sound n p two eight one p64 (entry_in c.log) (writer_past c.log) c w o lt in
        ap sound_store (S.words o lt) ∙ sound_store_lem (rows o) (c.stores o) T (rw (w.offices o).offices (enough o lt))

    noted_same : (v : Event) → Same n rows (noted_event g v) (noted_event c v)
    noted_same v =
        record {
          stores = S.stores;
          words = S.words;
          lines = S.lines;
          sessions = S.sessions;
          tokens = S.tokens;
          log = S.log;
          events = ap (λ (l : List Event). l ++ (v ∷ [])) S.events;
        }

    -- a new store
    module _ (o : ℕ) (lt : o < n) (O' : Office) (ca : Canon n O') (grows : Grows (c.stores o) O') where
      stores' : (q : ℕ) → q < n → office_of (upd g.stores o (store_words (g.stores o) O') q) ≡ upd c.stores o O' q
      stores' q l = ⊎_elim
          (λ (e : q ≡ o).
          let a : upd g.stores o (store_words (g.stores o) O') q ≡ store_words (g.stores o) O' =
          ap (upd g.stores o (store_words (g.stores o) O')) e ∙ upd_same g.stores o (store_words (g.stores o) O')
          in
          let b : upd c.stores o O' q ≡ O' = ap (upd c.stores o O') e ∙ upd_same c.stores o O' in
          ap office_of a ∙ store_back n O' ca (g.stores o) (long o lt) ∙ sym b)
          (λ (e : q ≡ o → ⊥).
          ap office_of (upd_other g.stores o (store_words (g.stores o) O') q e) ∙ S.stores q l ∙ sym (upd_other c.stores o O' q e))
          (eq_or_ne q o)

      written : store_words (g.stores o) O' ≡ store_words (rows o) O'
      written =
          ap (λ (ws : List ℕ). store_words ws O') (S.words o lt) ∙ store_again n (c.stores o) O' (can o lt) ca (rows o) (enough o lt) grows

      words' : (q : ℕ) → q < n → upd g.stores o (store_words (g.stores o) O') q ≡ store_words (rows q) (upd c.stores o O' q)
      words' q l = ⊎_elim
          (λ (e : q ≡ o).
          let a : upd g.stores o (store_words (g.stores o) O') q ≡ store_words (g.stores o) O' =
          ap (upd g.stores o (store_words (g.stores o) O')) e ∙ upd_same g.stores o (store_words (g.stores o) O')
          in
          let b : upd c.stores o O' q ≡ O' = ap (upd c.stores o O') e ∙ upd_same c.stores o O' in
          a ∙ written ∙ sym (ap (λ (x : ℕ). store_words (rows x) (upd c.stores o O' q)) e ∙ ap (store_words (rows o)) b))
          (λ (e : q ≡ o → ⊥).
          upd_other g.stores o (store_words (g.stores o) O') q e
          ∙ S.words q l
          ∙ ap (store_words (rows q)) (sym (upd_other c.stores o O' q e)))
          (eq_or_ne q o)

    -- a refused call changes no store
    module _ (o : ℕ) (O : Office) (kept : O ≡ c.stores o) where
      same_g : upd g.stores o (g.stores o) ≡ g.stores
      same_g = upd_self g.stores o

      same_c : upd c.stores o O ≡ c.stores
      same_c = ap (upd c.stores o) kept ∙ upd_self c.stores o

      stores_stay : (q : ℕ) → q < n → office_of (upd g.stores o (g.stores o) q) ≡ upd c.stores o O q
      stores_stay q l = ap (λ (f : ℕ → List ℕ). office_of (f q)) same_g ∙ S.stores q l ∙ ap (λ (f : ℕ → Office). f q) (sym same_c)

      words_stay : (q : ℕ) → q < n → upd g.stores o (g.stores o) q ≡ store_words (rows q) (upd c.stores o O q)
      words_stay q l = ap (λ (f : ℕ → List ℕ). f q) same_g ∙ S.words q l ∙ ap (λ (f : ℕ → Office). store_words (rows q) (f q)) (sym same_c)

    canon_of : (o : ℕ) → o < n → (O' : Office) (c' : Sys) → Ok n p two eight c' → c'.stores o ≡ O' → Canon n O'
    canon_of o lt O' c' K e =
        rw e at (canon n p two eight one p64 (entry_in c'.log) (writer_past c'.log) c' (ok_whole n p two eight c' K) o lt)

    module _ (o : ℕ) (lt : o < n) (R : Result Office Frame) (kept : (R.code ≡ 0 → ⊥) → R.store ≡ c.stores o) (row : List ℕ)
        (s : Content) where
      abbrev Rw : Result (List ℕ) (List ℕ)
      Rw = worded true (g.stores o) s row R

      stored_is : R.code ≡ 0 → stored R.code (g.stores o) R.store ≡ store_words (g.stores o) R.store
      stored_is e = rw e

      unstored : (x : ℕ) → R.code ≡ suc x → stored R.code (g.stores o) R.store ≡ g.stores o
      unstored x e = rw e

      keeps : (x : ℕ) → R.code ≡ suc x → R.store ≡ c.stores o
      keeps x e = kept (λ z. absurd (omega arith))

      turned_same : (x : ℕ) → R.code ≡ suc x → Same n rows (turned_by over_words n g o Rw) (turned_by over_contents n c o R)
      turned_same x e =
          record {
            stores = rw (unstored x e) (stores_stay o R.store (keeps x e));
            words = rw (unstored x e) (words_stay o R.store (keeps x e));
            lines = S.lines;
            sessions = S.sessions;
            tokens = S.tokens;
            log = S.log;
            events = ap (λ (l : List Event). l ++ (event_of R ∷ [])) S.events;
          }

      refused_same : (i : ℕ) (r : Tracked) (x : ℕ) → R.code ≡ suc x
          → Same n rows (refused_by over_words n g o i r Rw) (refused_by over_contents n c o i r R)
      refused_same i r x e =
          record {
            stores = rw (unstored x e) (stores_stay o R.store (keeps x e));
            words = rw (unstored x e) (words_stay o R.store (keeps x e));
            lines = S.lines;
            sessions = ap (λ (l : List Tracked). set l i (record { session = R.session; past = r.past })) S.sessions;
            tokens = S.tokens;
            log = S.log;
            events = ap (λ (l : List Event). l ++ (event_of R ∷ [])) S.events;
          }

      new_line : (l : ℕ → List (List ℕ)) (l' : ℕ → List Frame) → ((q : ℕ) → l q ≡ map frame_words (l' q)) → (q : ℕ)
          → upd l (next_of n o) (g.lines (next_of n o) ++ map frame_words R.sent) q ≡ map frame_words (upd l' (next_of n o) (c.lines (next_of n o) ++ R.sent) q)
      new_line l l' e q =
          upd_map (map frame_words) l l' e (next_of n o) (g.lines (next_of n o) ++ map frame_words R.sent) (c.lines (next_of n o) ++ R.sent)
          (ap (λ (x : List (List ℕ)). x ++ map frame_words R.sent) (S.lines (next_of n o)) ∙ sym (map-append frame_words (c.lines (next_of n o)) R.sent)) q

      write_same : (grows : Grows (c.stores o) R.store) (i : ℕ) (r : Tracked) (x : ℕ) → R.code ≡ x
          → Ok n p two eight (write_by over_contents n c o i r R x)
          → Same n rows (write_by over_words n g o i r Rw x) (write_by over_contents n c o i r R x)
      write_same grows i r zero e K =
          let ca = canon_of o lt R.store (wrote over_contents n c o i r R) K (upd_same c.stores o R.store) in
          record {
            stores = rw (stored_is e) (stores' o lt R.store ca grows);
            words = rw (stored_is e) (words' o lt R.store ca grows);
            lines = new_line g.lines c.lines S.lines;
            sessions =
                ap (λ (l : List Tracked). set l i (record { session = R.session; past = id_of (last_of R.session.own) ∷ r.past }))
                S.sessions;
            tokens = S.tokens;
            log = ap (λ (l : List Made). l ++ (record { entry = last_of R.session.own; past = r.past } ∷ [])) S.log;
            events = ap (λ (l : List Event). l ++ (event_of R ∷ [])) S.events;
          }
      write_same grows i r (suc x) e K = refused_same i r x e

      read_same : (grows : Grows (c.stores o) R.store) (i : ℕ) (r : Tracked) (plots : List ℕ) (x : ℕ) → R.code ≡ x
          → Ok n p two eight (read_by over_contents n c o i r plots R x)
          → Same n rows (read_by over_words n g o i r plots Rw x) (read_by over_contents n c o i r plots R x)
      read_same grows i r plots zero e K =
          let ca = canon_of o lt R.store (read_in over_contents n c o i r plots R) K (upd_same c.stores o R.store) in
          record {
            stores = rw (stored_is e) (stores' o lt R.store ca grows);
            words = rw (stored_is e) (words' o lt R.store ca grows);
            lines = S.lines;
            sessions =
                ap (λ (l : List Tracked). set l i (record { session = R.session; past = gained g.log R.found r.past })) S.sessions
                ∙ ap (λ (l : List Made). set c.sessions i (record { session = R.session; past = gained l R.found r.past })) S.log;
            tokens = S.tokens;
            log = S.log;
            events =
                ap
                (λ (l : List Event).
                l ++
                (record { code = R.code; count = R.count; row = R.row; reads = together plots R.found; past = gained g.log R.found r.past } ∷ []))
                S.events
                ∙ ap
                (λ (l : List Made).
                c.events ++
                (record { code = R.code; count = R.count; row = R.row; reads = together plots R.found; past = gained l R.found r.past } ∷ []))
                S.log;
          }
      read_same grows i r plots (suc x) e K = refused_same i r x e

      receive_same : (grows : Grows (c.stores o) R.store) (rest : List Frame) (x : ℕ) → R.code ≡ x
          → Ok n p two eight (receive_by over_contents n c o rest R x)
          → Same n rows (receive_by over_words n g o (map frame_words rest) Rw x) (receive_by over_contents n c o rest R x)
      receive_same grows rest zero e K =
          let ca = canon_of o lt R.store (received over_contents n c o rest R) K (upd_same c.stores o R.store) in
          record {
            stores = rw (stored_is e) (stores' o lt R.store ca grows);
            words = rw (stored_is e) (words' o lt R.store ca grows);
            lines =
                new_line (upd g.lines o (map frame_words rest)) (upd c.lines o rest)
                (upd_map (map frame_words) g.lines c.lines S.lines o (map frame_words rest) rest refl);
            sessions = S.sessions;
            tokens = S.tokens;
            log = S.log;
            events = ap (λ (l : List Event). l ++ (event_of R ∷ [])) S.events;
          }
      receive_same grows rest (suc x) e K = turned_same x e

    -- the calls
    write_is : (o : ℕ) → o < n → (s : Content) (plot value : ℕ) (row : List ℕ)
        → write (g.stores o) s plot value row ≡ worded true (g.stores o) s row (write_on (c.stores o) s plot value row)
    unfolding write
    write_is o lt s plot value row =
        ap (λ (b : Bool). worded b (g.stores o) s row (write_on (office_of (g.stores o)) s plot value row)) (sound o lt)
        ∙ ap (λ (O : Office). worded true (g.stores o) s row (write_on O s plot value row)) (S.stores o lt)

    read_is : (o : ℕ) → o < n → (s : Content) (plot : ℕ)
        → read_plot (g.stores o) s plot ≡ worded true (g.stores o) s [] (read_on (c.stores o) s plot)
    unfolding read_plot
    read_is o lt s plot =
        ap (λ (b : Bool). worded b (g.stores o) s [] (read_on (office_of (g.stores o)) s plot)) (sound o lt)
        ∙ ap (λ (O : Office). worded true (g.stores o) s [] (read_on O s plot)) (S.stores o lt)

    pub joint_is : (o : ℕ) → o < n → (s : Content) (plots row : List ℕ)
        → read_joint (g.stores o) s plots row ≡ worded true (g.stores o) s row (joint_on (c.stores o) s plots row)
    unfolding read_joint
    joint_is o lt s plots row =
        ap (λ (b : Bool). worded b (g.stores o) s row (joint_on (office_of (g.stores o)) s plots row)) (sound o lt)
        ∙ ap (λ (O : Office). worded true (g.stores o) s row (joint_on O s plots row)) (S.stores o lt)

    receive_on_lem : (o : ℕ) → o < n → (words row : List ℕ)
        → receive (g.stores o) words row
        ≡ worded true (g.stores o) (fresh_content 0) row
        (parsed (accepts (c.stores o).offices (c.stores o).plots words) (c.stores o) row (receive_on (c.stores o) (frame_of words) row))
    unfolding receive
    receive_on_lem o lt words row =
        ap
        (λ (b : Bool).
        worded b (g.stores o) (fresh_content 0) row
        (parsed (accepts (office_of (g.stores o)).offices (office_of (g.stores o)).plots words) (office_of (g.stores o)) row
        (receive_on (office_of (g.stores o)) (frame_of words) row)))
        (sound o lt)
        ∙ ap
        (λ (O : Office).
        worded true (g.stores o) (fresh_content 0) row (parsed (accepts O.offices O.plots words) O row (receive_on O (frame_of words) row)))
        (S.stores o lt)

    accepts_is : (o : ℕ) (words : List ℕ) → accepts (c.stores o).offices (c.stores o).plots words ≡ accepts n p words
    accepts_is o words =
        ap (λ (x : ℕ). accepts x (c.stores o).plots words) (w.offices o).offices ∙ ap (λ (x : ℕ). accepts n x words) (w.offices o).plots

    frame_is : (o : ℕ) → o < n → (f : Frame) → Memᴰ f (c.lines o) → (row : List ℕ)
        → receive (g.stores o) (frame_words f) row ≡ worded true (g.stores o) (fresh_content 0) row (receive_on (c.stores o) f row)
    frame_is o lt f m row =
        receive_on_lem o lt (frame_words f) row
        ∙ ap
        (λ (b : Bool).
        worded true (g.stores o) (fresh_content 0) row (parsed b (c.stores o) row (receive_on (c.stores o) (frame_of (frame_words f)) row)))
        (accepts_is o (frame_words f) ∙ accepts_frame (entry_in c.log) (writer_past c.log) c w o f m)
        ∙ ap (λ (h : Frame). worded true (g.stores o) (fresh_content 0) row (receive_on (c.stores o) h row))
        (frame_reads (entry_in c.log) (writer_past c.log) c w o f m)

    -- tokens
    module _ (r : TrackedToken Content) (m : Memᴰ r c.tokens) where
      sane : SaneContent r.token
      sane = fit_sane n p two eight (entry_in c.log) (writer_past c.log) c w r.token r.past (w.tokens r m)

      token_reads : content_from (token_words r.token) ≡ r.token
      token_reads = token_back r.token (w.tokens_ok r m).0 (w.tokens_ok r m).1 sane

      token_code : (a b : ℕ) → read_token_code a b (token_words r.token) ≡ check (ring_ok a b) 1 (check (session_ok a b r.token) 9 0)
      unfolding read_token_code check
      token_code a b =
          ap (λ (t : Bool). check (ring_ok a b) 1 (check t 9 0))
          (token_accepted r.token (w.tokens_ok r m).0 (w.tokens_ok r m).1 sane a b)

    with_session_same : (v : Event) (r : Tracked)
        → Same n rows (with_session (noted_event g v) r) (with_session (noted_event c v) r)
    with_session_same v r =
        record {
          stores = S.stores;
          words = S.words;
          lines = S.lines;
          sessions = ap (λ (l : List Tracked). l ++ (r ∷ [])) S.sessions;
          tokens = S.tokens;
          log = S.log;
          events = ap (λ (l : List Event). l ++ (v ∷ [])) S.events;
        }

    pub step_same : (x : Call) → Ok n p two eight (step over_contents n c x) → Same n rows (step over_words n g x) (step over_contents n c x)
    unfolding step over_contents over_words check
    step_same (writing o i plot value row) = by (ltb o n) refl
      where
        on : o < n → (l : List Tracked) → Ok n p two eight (write_at over_contents n c o i plot value row l)
            → Same n rows (write_at over_words n g o i plot value row l) (write_at over_contents n c o i plot value row l)
        on lt [] K = S
        on lt (r ∷ rs) K =
            rw (write_is o lt r.session plot value row)
            (write_same o lt (write_on (c.stores o) r.session plot value row)
            (λ z. (write_refused (c.stores o) r.session plot value row z).store) row r.session
            (write_grows (c.stores o) r.session plot value row) i r (write_on (c.stores o) r.session plot value row).code refl K)

        same : at g.sessions i ≡ at c.sessions i
        same = ap (λ (l : List Tracked). at l i) S.sessions

        by : (t : Bool) → ltb o n ≡ t → Ok n p two eight (cond t (write_at over_contents n c o i plot value row (at c.sessions i)) c) →
            Same n rows (cond t (write_at over_words n g o i plot value row (at g.sessions i)) g)
            (cond t (write_at over_contents n c o i plot value row (at c.sessions i)) c)
        by true t K = rw same (on (ltb-true o n t) (at c.sessions i) K)
        by false t K = S
    step_same (reading o i plot) = by (ltb o n) refl
      where
        on : o < n → (l : List Tracked) → Ok n p two eight (read_at over_contents n c o i plot l)
            → Same n rows (read_at over_words n g o i plot l) (read_at over_contents n c o i plot l)
        on lt [] K = S
        on lt (r ∷ rs) K =
            rw (read_is o lt r.session plot)
            (read_same o lt (read_on (c.stores o) r.session plot) (λ z. (read_refused (c.stores o) r.session plot z).store) [] r.session
            (read_grows (c.stores o) r.session plot) i r (plot ∷ []) (read_on (c.stores o) r.session plot).code refl K)

        same : at g.sessions i ≡ at c.sessions i
        same = ap (λ (l : List Tracked). at l i) S.sessions

        by : (t : Bool) → ltb o n ≡ t → Ok n p two eight (cond t (read_at over_contents n c o i plot (at c.sessions i)) c) →
            Same n rows (cond t (read_at over_words n g o i plot (at g.sessions i)) g)
            (cond t (read_at over_contents n c o i plot (at c.sessions i)) c)
        by true t K = rw same (on (ltb-true o n t) (at c.sessions i) K)
        by false t K = S
    step_same (joint o i plots row) = by (ltb o n) refl
      where
        on : o < n → (l : List Tracked) → Ok n p two eight (joint_at over_contents n c o i plots row l)
            → Same n rows (joint_at over_words n g o i plots row l) (joint_at over_contents n c o i plots row l)
        on lt [] K = S
        on lt (r ∷ rs) K =
            rw (joint_is o lt r.session plots row)
            (read_same o lt (joint_on (c.stores o) r.session plots row) (λ z. (joint_refused (c.stores o) r.session plots row z).store) row
            r.session (joint_grows (c.stores o) r.session plots row) i r plots (joint_on (c.stores o) r.session plots row).code refl K)

        same : at g.sessions i ≡ at c.sessions i
        same = ap (λ (l : List Tracked). at l i) S.sessions

        by : (t : Bool) → ltb o n ≡ t → Ok n p two eight (cond t (joint_at over_contents n c o i plots row (at c.sessions i)) c) →
            Same n rows (cond t (joint_at over_words n g o i plots row (at g.sessions i)) g)
            (cond t (joint_at over_contents n c o i plots row (at c.sessions i)) c)
        by true t K = rw same (on (ltb-true o n t) (at c.sessions i) K)
        by false t K = S
    step_same (receiving o row) = by (ltb o n) refl
      where
        on : o < n → (l : List Frame) → ((f : Frame) → Memᴰ f l → Memᴰ f (c.lines o))
            → Ok n p two eight (receive_at over_contents n c o row l)
            → Same n rows (receive_at over_words n g o row (map frame_words l)) (receive_at over_contents n c o row l)
        on lt [] mem K = S
        on lt (f ∷ rest) mem K =
            rw (frame_is o lt f (mem f (Memᴰ.head refl)) row)
            (receive_same o lt (receive_on (c.stores o) f row) (λ z. (receive_refused (c.stores o) f row z).store) row (fresh_content 0)
            (receive_grows (c.stores o) f row) rest (receive_on (c.stores o) f row).code refl K)

        by : (t : Bool) → ltb o n ≡ t → Ok n p two eight (cond t (receive_at over_contents n c o row (c.lines o)) c) →
            Same n rows (cond t (receive_at over_words n g o row (g.lines o)) g) (cond t (receive_at over_contents n c o row (c.lines o)) c)
        by true t K = rw (S.lines o) (on (ltb-true o n t) (c.lines o) (λ f m. m) K)
        by false t K = S
    step_same (receiving_words o words row) = λ K. by (ltb o n) refl
      where
        R : Result Office Frame
        R = parsed (accepts (c.stores o).offices (c.stores o).plots words) (c.stores o) row (receive_on (c.stores o) (frame_of words) row)

        on : o < n → (b : Bool) → eqb R.code 9 ≡ b
            → Same n rows (cond b (turned_by over_words n g o (worded true (g.stores o) (fresh_content 0) row R)) g) (cond b (turned_by over_contents n c o R) c)
        on lt true e =
            turned_same o lt R
            (λ z. (parsed_refused (accepts (c.stores o).offices (c.stores o).plots words) (c.stores o) words row z).store) row
            (fresh_content 0)
            8 (eqb-true R.code 9 e)
        on lt false e = S

        by : (t : Bool) → ltb o n ≡ t
            → Same n rows (cond t (words_by over_words n g o (receive (g.stores o) words row)) g) (cond t (words_by over_contents n c o R) c)
        by true t = rw (receive_on_lem o (ltb-true o n t) words row) (on (ltb-true o n t) (eqb R.code 9) refl)
        by false t = S
    step_same (fresh m) = λ K. go (fresh_code m)
      where
        go : (x : ℕ) → Same n rows (start_by over_words n g m x) (start_by over_contents n c m x)
        go zero = with_session_same (answered 0 0 []) (record { session = fresh_content m; past = [] })
        go (suc x) = noted_same (answered (suc x) 0 [])
    step_same (token_writing i row) = λ K. rw same (by (at c.sessions i))
      where
        same : at g.sessions i ≡ at c.sessions i
        same = ap (λ (l : List Tracked). at l i) S.sessions

        go : (r : Tracked) (x : ℕ) → Same n rows (token_by over_words n g r row x) (token_by over_contents n c r row x)
        go r zero =
            record {
              stores = S.stores;
              words = S.words;
              lines = S.lines;
              sessions = S.sessions;
              tokens =
                  ap (λ (l : List (TrackedToken (List ℕ))). l ++ (record { token = token_words r.session; past = r.past } ∷ [])) S.tokens
                  ∙ sym (map-append token_on c.tokens (record { token = r.session; past = r.past } ∷ []));
              log = S.log;
              events =
                  ap (λ (l : List Event). l ++ (answered 0 (length (token_words r.session)) (write_token_row r.session row) ∷ [])) S.events;
            }
        go r (suc x) = noted_same (answered (suc x) 0 (write_token_row r.session row))

        by : (l : List Tracked) → Same n rows (token_at over_words n g row l) (token_at over_contents n c row l)
        by [] = S
        by (r ∷ rs) = go r (write_token_code r.session (length row))
    step_same (token_reading t a b) = λ K. rw same (by (at c.tokens t) (λ r j. mem_at c.tokens t r j))
      where
        same : at g.tokens t ≡ map token_on (at c.tokens t)
        same = ap (λ (l : List (TrackedToken (List ℕ))). at l t) S.tokens ∙ at_map token_on c.tokens t

        go : (r : TrackedToken Content) → Memᴰ r c.tokens → (x : ℕ)
            → Same n rows (from_token over_words n g (token_on r) x) (from_token over_contents n c r x)
        go r m zero = rw (token_reads r m) (with_session_same (answered 0 0 []) (record { session = r.token; past = r.past }))
        go r m (suc x) = noted_same (answered (suc x) 0 [])

        by : (l : List (TrackedToken Content)) → ((r : TrackedToken Content) → Memᴰ r l → Memᴰ r c.tokens)
            → Same n rows (from_token_at over_words n g a b (map token_on l)) (from_token_at over_contents n c a b l)
        by [] mem = S
        by (r ∷ rs) mem =
            rw (token_code r (mem r (Memᴰ.head refl)) a b)
            (go r (mem r (Memᴰ.head refl)) (check (ring_ok a b) 1 (check (session_ok a b r.token) 9 0)))
    step_same (copy_session i) = λ K. rw same (by (at c.sessions i))
      where
        same : at g.sessions i ≡ at c.sessions i
        same = ap (λ (l : List Tracked). at l i) S.sessions

        by : (l : List Tracked) → Same n rows (copied_session over_words n g l) (copied_session over_contents n c l)
        by [] = S
        by (r ∷ rs) =
            record {
              stores = S.stores;
              words = S.words;
              lines = S.lines;
              sessions = ap (λ (l : List Tracked). l ++ (r ∷ [])) S.sessions;
              tokens = S.tokens;
              log = S.log;
              events = S.events;
            }
    step_same (copy_token t) = λ K. rw same (by (at c.tokens t))
      where
        same : at g.tokens t ≡ map token_on (at c.tokens t)
        same = ap (λ (l : List (TrackedToken (List ℕ))). at l t) S.tokens ∙ at_map token_on c.tokens t

        by : (l : List (TrackedToken Content)) → Same n rows (copied_token over_words n g (map token_on l)) (copied_token over_contents n c l)
        by [] = S
        by (r ∷ rs) =
            record {
              stores = S.stores;
              words = S.words;
              lines = S.lines;
              sessions = S.sessions;
              tokens =
                  ap (λ (l : List (TrackedToken (List ℕ))). l ++ (token_on r ∷ [])) S.tokens ∙ sym (map-append token_on c.tokens (r ∷ []));
              log = S.log;
              events = S.events;
            }
    step_same (joining i j m q) = λ K. rw (same i, same j) (by (at c.sessions i) (at c.sessions j))
      where
        same : (k : ℕ) → at g.sessions k ≡ at c.sessions k
        same k = ap (λ (l : List Tracked). at l k) S.sessions

        go : (a b : Tracked) (x : ℕ) → Same n rows (join_by over_words n g a b x) (join_by over_contents n c a b x)
        go a b zero = with_session_same (answered 0 0 []) (record { session = joined a.session b.session; past = a.past ++ b.past })
        go a b (suc x) = noted_same (answered (suc x) 0 [])

        by : (l k : List Tracked) → Same n rows (join_at over_words n g m q l k) (join_at over_contents n c m q l k)
        by [] k = S
        by (a ∷ l) [] = S
        by (a ∷ l) (b ∷ k) = go a b (join_code m q a.session b.session)
