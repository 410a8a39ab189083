-- A step of a run is what the calls promise: whatever a call answers and leaves, if it keeps its promise, is the result that `step` goes on
-- with. Assumes nothing.
use Rattle.std.proofs.Common.{None, Some}
use Prim.Native.Nat.{ℕ, suc, zero, ◌≤◌}
use mathlib.Core.Bool.{Bool, false, true}
use mathlib.Core.List.{List, [], ◌++◌, ◌∷◌, map}
use mathlib.Core.Path.{◌∙◌, ◌≡◌, ap, refl}
use native.Mathlib.Omega.{arith}
use lib.ListN.{length}
use Rattle.causal.proofs.Codes.{check_none}
use Rattle.frame.specs.Calls.{laid, laid_if}
use Rattle.frame.specs.Frames.{accepts, frame_of, frame_words, ring_ok}
use Rattle.frame.specs.Promises.{ReadTokenPromise, WriteTokenPromise}
use Rattle.frame.specs.Refusals.{Reply, replied}
use Rattle.frame.specs.Sessions.{Content, content_of, fresh_content, session_of}
use Rattle.frame.specs.TokenCalls.{content_if, read_token, read_token_code, write_token, write_token_code, write_token_row}
use Rattle.frame.specs.Tokens.{accepts_token, content_from, rows_of, token_words}
use Rattle.frame.specs.declared.entry.Frame.{Frame}
use Rattle.frame.specs.declared.session.Session.{Session}
use Rattle.frame.proofs.Changed.{token_sound}
use Rattle.frame.proofs.OwnTurns.{content_back}
use Rattle.frame.proofs.Sessions.{session_facts}
use Rattle.joining.specs.Joins.{join_code, join_sessions, joined as joinedSession, joined_if}
use Rattle.joining.specs.Promises.{JoinPromise}
use Rattle.joining.proofs.Laws.{joinable}
use Rattle.store.specs.Offices.{Found, Office, office_of, reveal, sound_store}
use Rattle.office.specs.Answers.{any_found, entry_found, fresh_by}
use Rattle.office.specs.Calls.{Result, answer_words, fresh_code, given, handed, handed_all, hold_all, joint_code, joint_on, noted_all, open_office, parsed, read_all, read_code, read_joint, read_on, read_plot, receive, receive_code, receive_on, receive_sends, received_by, sent_of, three_words, worded, write, write_code, write_on, write_sends, wrote_session}
use Rattle.office.specs.Promises.{FreshPromise, JointPromise, OpenPromise, ReadPromise, ReceivePromise, WritePromise}
use Rattle.reading.proofs.Answers.{joint_content, read_content}
use Rattle.writing.proofs.Answers.{write_content}
use Rattle.ring.specs.Answers.{ReadAnswer, SessionAnswer, WriteAnswer, handed_back}
use Rattle.ring.specs.Run.{over_words}

-- rows one behind the other
unfoldable pub joined : List (List ℕ) → List ℕ
joined [] = []
joined (l ∷ ls) = l ++ joined ls

-- ---- a write

-- a session of a program has room for 16 own writes
pub write_step : (ws : List ℕ) (s : Session) → length s.own ≡ 16 → (plot value : ℕ) (row : List ℕ) (r : WriteAnswer) (ws' row' : List ℕ) → WritePromise ws s plot value row r.reply r.session ws' row'
    → (r.reply.code ≡ (over_words.on_write ws (content_of s) plot value row).code)
    × (r.reply.words ≡ (over_words.on_write ws (content_of s) plot value row).count)
    × (content_of r.session ≡ (over_words.on_write ws (content_of s) plot value row).session)
    × (ws' ≡ (over_words.on_write ws (content_of s) plot value row).store)
    × (row' ≡ (over_words.on_write ws (content_of s) plot value row).row)
unfolding over_words
write_step ws s n plot value row r ws' row' h =
    (ap (λ (x : Reply). x.code) h.0, ap (λ (x : Reply). x.words) h.0, ap content_of h.1 ∙ write_content ws s n plot value row, h.2, h.3)

rows_joined : (fs : List Frame) → rows_of fs ≡ joined (map frame_words fs)
unfolding rows_of joined
rows_joined [] = refl
rows_joined (f ∷ fs) = ap (λ (l : List ℕ). frame_words f ++ l) (rows_joined fs)

-- a result on contents whose row begins with the frames that are sent
abbrev sending : Office → Content → List ℕ → List Frame → Result Office Frame
sending O s row fs =
    record { code = 0; count = length (rows_of fs); found = []; store = O; session = s; row = laid (rows_of fs) row; sent = fs }

-- the row and the number of words, of what is sent
abbrev Sent : List ℕ → Result (List ℕ) (List ℕ) → Type 0
Sent row R = (R.row ≡ laid (joined R.sent) row) × (R.count ≡ length (joined R.sent))

sent_by : (t : Bool) (c : ℕ) (ws : List ℕ) (s : Content) (row : List ℕ) (O P : Office) (s' : Content) (fs : List Frame)
    → Sent row (worded t ws s row (given c O s row (sending P s' row fs)))
unfolding joined laid
sent_by true zero ws s row O P s' fs = (ap (λ (l : List ℕ). laid l row) (rows_joined fs), ap length (rows_joined fs))
sent_by true (suc c) ws s row O P s' fs = (refl, refl)
sent_by false c ws s row O P s' fs = (refl, refl)

-- "An accepted write or hearing sends the frames it wrote, in row order"
pub write_sends_lem : (ws : List ℕ) (s : Content) (plot value : ℕ) (row : List ℕ) → Sent row (over_words.on_write ws s plot value row)
unfolding over_words write write_on
write_sends_lem ws s plot value row =
    sent_by (sound_store ws) (write_code (office_of ws) s plot value (length row)) ws s row (office_of ws) (hold_all (office_of ws) (sent_of (office_of ws) s plot value))
    (wrote_session (office_of ws) s plot value) (write_sends (office_of ws) s plot value)

-- ---- readings

-- what a reading handed back is read off its answer
read_found : (ws : List ℕ) (s : Content) (plot : ℕ)
    → handed_back (read_plot ws s plot).code (any_found (read_plot ws s plot).found) (entry_found (read_plot ws s plot).found) ≡ (read_plot ws s plot).found
unfolding read_plot read_on handed_back any_found entry_found
read_found ws s plot =
    go (sound_store ws) (read_code (office_of ws) s plot) (handed (reveal (office_of ws) s.read) s plot)
  where
    res : Bool → ℕ → Found → Result (List ℕ) (List ℕ)
    res t c f =
        worded t ws s []
        (given c (office_of ws) s []
        (record {
          code = 0;
          count = 0;
          found = f ∷ [];
          store = reveal (office_of ws) s.read;
          session = noted_all (reveal (office_of ws) s.read) (plot ∷ []) s;
          row = [];
          sent = [];
        }))

    go : (t : Bool) (c : ℕ) (f : Found) → handed_back (res t c f).code (any_found (res t c f).found) (entry_found (res t c f).found) ≡ (res t c f).found
    go true zero None = refl
    go true zero (Some e) = refl
    go true (suc c) f = refl
    go false c f = refl

pub read_step : (ws : List ℕ) (s : Session) (plot : ℕ) (r : ReadAnswer) (ws' : List ℕ) → ReadPromise ws s plot r.code r.found r.entry r.session ws'
    → (r.code ≡ (over_words.on_read ws (content_of s) plot).code)
    × (handed_back r.code r.found r.entry ≡ (over_words.on_read ws (content_of s) plot).found)
    × (content_of r.session ≡ (over_words.on_read ws (content_of s) plot).session)
    × (ws' ≡ (over_words.on_read ws (content_of s) plot).store)
unfolding over_words
read_step ws s plot r ws' h = (h.0, rw (h.0, h.1, h.2) (read_found ws (content_of s) plot), ap content_of h.3 ∙ read_content ws s plot, h.4)

pub joint_step : (ws : List ℕ) (s : Session) (plots row : List ℕ) (r : SessionAnswer) (ws' row' : List ℕ) → JointPromise ws s plots row r.code r.session ws' row'
    → (r.code ≡ (over_words.on_joint ws (content_of s) plots row).code)
    × (content_of r.session ≡ (over_words.on_joint ws (content_of s) plots row).session)
    × (ws' ≡ (over_words.on_joint ws (content_of s) plots row).store)
    × (row' ≡ (over_words.on_joint ws (content_of s) plots row).row)
unfolding over_words
joint_step ws s plots row r ws' row' h = (h.0, ap content_of h.1 ∙ joint_content ws s plots row, h.2, h.3)

pub answers_joined : (fs : List Found) → answer_words fs ≡ joined (map three_words fs)
unfolding answer_words joined
answers_joined [] = refl
answers_joined (f ∷ fs) = ap (λ (l : List ℕ). three_words f ++ l) (answers_joined fs)

-- what a joint reading handed back stands in its row
pub joint_found : (ws : List ℕ) (s : Content) (plots row : List ℕ)
    → (over_words.on_joint ws s plots row).row ≡ laid (joined (map three_words (over_words.on_joint ws s plots row).found)) row
unfolding over_words read_joint joint_on joined laid
joint_found ws s plots row = go (sound_store ws) (joint_code (office_of ws) s plots (length row))
  where
    res : Bool → ℕ → Result (List ℕ) (List ℕ)
    res t c = worded t ws s row (given c (office_of ws) s row (read_all (office_of ws) s plots (laid (answer_words (handed_all (office_of ws) s plots)) row)))

    go : (t : Bool) (c : ℕ) → (res t c).row ≡ laid (joined (map three_words (res t c).found)) row
    go true zero = ap (λ (l : List ℕ). laid l row) (answers_joined (handed_all (office_of ws) s plots))
    go true (suc c) = refl
    go false c = refl

-- ---- a receive

pub receive_step : (ws frame row : List ℕ) (r : Reply) (ws' row' : List ℕ) → ReceivePromise ws frame row r ws' row'
    → (r.code ≡ (over_words.on_receive ws frame row).code)
    × (r.words ≡ (over_words.on_receive ws frame row).count)
    × (ws' ≡ (over_words.on_receive ws frame row).store)
    × (row' ≡ (over_words.on_receive ws frame row).row)
unfolding over_words
receive_step ws frame row r ws' row' h = (ap (λ (x : Reply). x.code) h.0, ap (λ (x : Reply). x.words) h.0, h.1, h.2)

pub receive_sends_lem : (ws frame row : List ℕ) → Sent row (over_words.on_receive ws frame row)
unfolding over_words receive receive_on joined laid
receive_sends_lem ws frame row = go (sound_store ws) (accepts (office_of ws).offices (office_of ws).plots frame)
  where
    received : Result Office Frame
    received = receive_on (office_of ws) (frame_of frame) row

    go : (t a : Bool) → Sent row (worded t ws (fresh_content 0) row (parsed a (office_of ws) row received))
    go t true =
        sent_by t (receive_code (office_of ws) (frame_of frame) (length row)) ws (fresh_content 0) row (office_of ws) (received_by (office_of ws) (frame_of frame))
        (fresh_content 0) (receive_sends (frame_of frame))
    go true false = (refl, refl)
    go false false = (refl, refl)

-- words that nobody sent go the same way
pub words_step : (ws words row : List ℕ) → over_words.on_words ws words row ≡ over_words.on_receive ws words row
unfolding over_words
words_step ws words row = refl

-- ---- opening, and fresh sessions

pub open_step : (n o p : ℕ) (ws : List ℕ) (code : ℕ) (ws' : List ℕ) → OpenPromise n o p ws code ws' → ws' ≡ (open_office n o p ws).1
open_step n o p ws code ws' h = h.1

pub fresh_step : (n : ℕ) (r : SessionAnswer) → FreshPromise n r.code r.session
    → (r.code ≡ fresh_code n) × (fresh_code n ≡ 0 → content_of r.session ≡ fresh_content n)
unfolding fresh_by
fresh_step n r h =
    (h.0, λ a. ap content_of h.1 ∙ ap (λ (c : ℕ). content_of (session_of (fresh_by c n))) a ∙ content_back (fresh_content n) (omega arith))

-- ---- tokens

pub write_token_step : (s : Session) (row : List ℕ) (r : Reply) (row' : List ℕ) → WriteTokenPromise s row r row'
    → (r.code ≡ write_token_code (content_of s) (length row))
    × (row' ≡ write_token_row (content_of s) row)
    × (write_token_code (content_of s) (length row) ≡ 0
    → (r.words ≡ length (token_words (content_of s))) × (row' ≡ laid (over_words.token_of (content_of s)) row))
unfolding over_words write_token write_token_row replied laid_if
write_token_step s row r row' h = (
  ap (λ (x : Reply). x.code) h.0 ∙ code (write_token_code (content_of s) (length row)),
  h.1,
  λ a. (
    ap (λ (x : Reply). x.words) h.0 ∙ ap (λ (c : ℕ). (replied c (length (token_words (content_of s)))).words) a,
    h.1 ∙ ap (λ (c : ℕ). laid_if c (token_words (content_of s)) row) a,
  ),
)
  where
    code : (c : ℕ) → (replied c (length (token_words (content_of s)))).code ≡ c
    code zero = refl
    code (suc c) = refl

-- an accepted token has at most 16 own writes
pub token_few : (words : List ℕ) (n p : ℕ) → read_token_code n p words ≡ 0 → length (content_from words).own ≤ 16
unfolding read_token_code
token_few words n p a =
    let b = check_none (ring_ok n p) 1 _ (omega arith) a in
    let c = check_none (accepts_token n p words) 9 _ (omega arith) b.1 in
    (session_facts n p (content_from words) (token_sound n p words c.0)).few

pub read_token_step : (words : List ℕ) (n p : ℕ) (r : SessionAnswer) → ReadTokenPromise words n p r.code r.session
    → (r.code ≡ over_words.token_code n p words)
    × (over_words.token_code n p words ≡ 0 → content_of r.session ≡ over_words.token_read words)
unfolding over_words read_token content_if
read_token_step words n p r h =
    (h.0, λ a. ap content_of h.1 ∙ ap (λ (c : ℕ). content_of (session_of (content_if c words))) a ∙ content_back (content_from words) (token_few words n p a))

-- ---- a join

-- a join that is not refused carries at most 16
pub join_few : (n p : ℕ) (a b : Content) → join_code n p a b ≡ 0 → length (joinedSession a b).own ≤ 16
join_few n p a b h = (joinable n p a b h).few

pub join_step : (n p : ℕ) (a b : Session) (r : SessionAnswer) → JoinPromise n p a b r.code r.session
    → (r.code ≡ join_code n p (content_of a) (content_of b))
    × (join_code n p (content_of a) (content_of b) ≡ 0 → content_of r.session ≡ joinedSession (content_of a) (content_of b))
unfolding join_sessions joined_if
join_step n p a b r h = (
  h.0,
  λ z.
      ap content_of h.1
      ∙ ap (λ (c : ℕ). content_of (session_of (joined_if c (content_of a) (content_of b)))) z
      ∙ content_back (joinedSession (content_of a) (content_of b)) (join_few n p (content_of a) (content_of b) z),
)
