-- "What was written reads back under its ring size and any plots that cover it": of the calls, a frame or token whose writing was accepted.
-- Assumes nothing.
use Rattle.std.proofs.Common.{◌≡◌, ℕ, ◌<◌, ◌≤◌, Bool, true, List, [], ◌∷◌, length, take, drop, refl, ap, ◌∙◌, arith, take_at}
use mathlib.Core.List.{Memᴰ}
use Rattle.causal.specs.Codes.{check}
use Rattle.causal.specs.Lists.{zeros}
use Rattle.causal.specs.Sets.{inserted}
use Rattle.causal.specs.Tests.{both}
use Rattle.causal.proofs.Codes.{check_none}
use Rattle.causal.proofs.Tests.{both_true}
use Rattle.frame.specs.declared.entry.Entry.{Entry}
use Rattle.frame.specs.declared.entry.Frame.{Frame}
use Rattle.frame.specs.Entries.{entry_ok, id_of}
use Rattle.frame.specs.Frames.{ring_ok, frame_ok, frame_of, frame_words, accepts}
use Rattle.frame.specs.Calls.{read_frame_code, read_frame, frame_if, laid, laid_if, write_frame_code, write_frame_row}
use Rattle.frame.specs.Sessions.{Content, SaneContent, SaneEntry, own_ok, session_ok}
use Rattle.frame.specs.Tokens.{token_words, content_from, accepts_token}
use Rattle.frame.specs.TokenCalls.{read_token_code, read_token, content_if, write_token_code, write_token_row}
use Rattle.frame.proofs.Entries.{entry_facts, facts_entry, frame_facts, facts_frame, facts_ring, ring_facts}
use Rattle.frame.proofs.Back.{frame_back, frame_accepted}
use Rattle.frame.proofs.Sessions.{session_facts, facts_session, own_facts, facts_own}
use Rattle.frame.proofs.Tokens.{token_back, token_accepted}

-- neither 1 nor 9
code : (a b : Bool) → a ≡ true → b ≡ true → check a 1 (check b 9 0) ≡ 0
unfolding check
code a b x y = rw (x, y) refl

-- an entry that keeps the rules for q plots keeps them for any p plots that cover its own
entry_covered : (n p q : ℕ) (e : Entry) → e.plot < p → entry_ok n q e ≡ true → entry_ok n p e ≡ true
entry_covered n p q e l h =
    let f = entry_facts n q e h in
    let b = f.bounds in
    facts_entry n p e
    (record {
      bounds = record { office_ok = b.office_ok; from = b.from; to = b.to; plot_ok = l; value_ok = b.value_ok };
      own_clock = f.own_clock;
      no_self = f.no_self;
      clock = f.clock;
      deps = f.deps;
    })

frame_covered : (n p q : ℕ) (f : Frame) → f.entry.plot < p → frame_ok n q f ≡ true → frame_ok n p f ≡ true
frame_covered n p q f l h =
    let a = frame_facts n q f h in
    facts_frame n p f
    (record { ring = a.ring; low = a.low; high = a.high; hops_ok = a.hops_ok; entry = entry_covered n p q f.entry l a.entry })

-- a frame
pub frame_reads_back : (f : Frame) (room p : ℕ) → SaneEntry f.entry → write_frame_code f room ≡ 0 → f.entry.plot < p → p ≤ 64
    → (read_frame_code f.offices p (frame_words f) ≡ 0) × (read_frame f.offices p (frame_words f) ≡ f)
unfolding write_frame_code read_frame_code read_frame frame_if check
frame_reads_back f room p s w l m =
    let ok = (check_none (frame_ok f.offices 64 f) 3 _ (omega arith) w).0 in
    let a = frame_facts f.offices 64 f ok in
    let r : ring_ok f.offices p ≡ true = facts_ring f.offices p (record { low = a.low; high = a.high; from = omega arith; to = m }) in
    let ac : accepts f.offices p (frame_words f) ≡ true =
    frame_accepted f.offices p 64 f.offices f (omega arith) ok s ∙ frame_covered f.offices p 64 f l ok
    in
    let c : read_frame_code f.offices p (frame_words f) ≡ 0 = code (ring_ok f.offices p) (accepts f.offices p (frame_words f)) r ac in
    (c, ap (λ (x : ℕ). frame_if x (frame_words f)) c ∙ back (frame_back f.offices 64 f (omega arith) ok s))
  where
    back : frame_of (frame_words f) ≡ f → frame_if 0 (frame_words f) ≡ f
    back h = h

owns_covered : (n p q : ℕ) (read seen : List ℕ) (es : List Entry) → ((e : Entry) → Memᴰ e es → e.plot < p)
    → own_ok n q read seen es ≡ true → own_ok n p read seen es ≡ true
unfolding own_ok
owns_covered n p q read seen [] l h = refl
owns_covered n p q read seen (e ∷ es) l h =
    let F = own_facts n q read seen e es h in
    facts_own n p read seen e es
    (record {
      ok = entry_covered n p q e (l e (Memᴰ.head refl)) F.ok;
      new = F.new;
      deps = F.deps;
      rest = owns_covered n p q read (inserted seen (id_of e)) es (λ x m. l x (Memᴰ.tail m)) F.rest;
    })

-- a token: its own entries are what plots have to cover
pub token_reads_back : (s : Content) (room p : ℕ) → SaneContent s → write_token_code s room ≡ 0 → ((e : Entry) → Memᴰ e s.own → e.plot < p)
    → 1 ≤ p → p ≤ 64 → (read_token_code s.offices p (token_words s) ≡ 0) × (read_token s.offices p (token_words s) ≡ s)
unfolding write_token_code read_token_code read_token content_if check
token_reads_back s room p sane w l m1 m =
    let both_ok = (check_none (both (ring_ok s.offices 64) (session_ok s.offices 64 s)) 3 _ (omega arith) w).0 in
    let t = both_true (ring_ok s.offices 64) _ both_ok in
    let R = ring_facts s.offices 64 t.0 in
    let F = session_facts s.offices 64 s t.1 in
    let r : ring_ok s.offices p ≡ true = facts_ring s.offices p (record { low = R.low; high = R.high; from = m1; to = m }) in
    let ok : session_ok s.offices p s ≡ true =
    facts_session s.offices p s
    (record {
      offices = F.offices;
      few = F.few;
      clock = F.clock;
      ids = F.ids;
      own = owns_covered s.offices p 64 s.read zeros s.own l F.own;
    })
    in
    let ac : accepts_token s.offices p (token_words s) ≡ true = token_accepted s t.0 t.1 sane s.offices p ∙ ok in
    let c : read_token_code s.offices p (token_words s) ≡ 0 = code (ring_ok s.offices p) (accepts_token s.offices p (token_words s)) r ac in
    (c, ap (λ (x : ℕ). content_if x (token_words s)) c ∙ back (token_back s t.0 t.1 sane))
  where
    back : content_from (token_words s) ≡ s → content_if 0 (token_words s) ≡ s
    back h = h

-- ---- in the row that the call leaves: it begins with these words

front : (c : ℕ) (ws row : List ℕ) → c ≡ 0 → take (length ws) (laid_if c ws row) ≡ ws
unfolding laid_if laid
front c ws row e = rw e (take_at ws (drop (length ws) row) (length ws) refl)

pub frame_in_row : (f : Frame) (row : List ℕ) → write_frame_code f (length row) ≡ 0 → take (length (frame_words f)) (write_frame_row f row) ≡ frame_words f
unfolding write_frame_row
frame_in_row f row w = front (write_frame_code f (length row)) (frame_words f) row w

pub token_in_row : (s : Content) (row : List ℕ) → write_token_code s (length row) ≡ 0 → take (length (token_words s)) (write_token_row s row) ≡ token_words s
unfolding write_token_row
token_in_row s row w = front (write_token_code s (length row)) (token_words s) row w
