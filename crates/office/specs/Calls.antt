-- The calls of an office: for each, on contents, its refusal number (0: none) in the paper's order and what it does; and the call on words,
-- which is that between reading the store and writing it. Paper 01, "Operations", as paper 02 changes it. Assumes nothing.
use Rattle.std.specs.Prelude.{ℕ, zero, suc, ◌+◌, ◌-◌, ◌*◌, Bool, true, false, cond, List, [], ◌∷◌, ◌++◌, map, leb, ltb, eqb, length, set, None, Some}
use Rattle.causal.specs.Tests.{both, either, implies}
use Rattle.causal.specs.Codes.{check, or_else}
use Rattle.causal.specs.Lists.{zeros}
use Rattle.causal.specs.Sets.{is_in, unite, inserted, subset_of}
use Rattle.causal.specs.Clocks.{join}
use Rattle.frame.specs.declared.entry.Entry.{Entry}
use Rattle.frame.specs.declared.entry.Frame.{Frame}
use Rattle.frame.specs.Entries.{id_of, name_of, same_content}
use Rattle.frame.specs.Frames.{framed, frame_words, frame_of, accepts}
use Rattle.frame.specs.Calls.{laid}
use Rattle.frame.specs.Sessions.{Content, session_ok, fresh_content, ids_of, leave_out}
use Rattle.frame.specs.Tokens.{rows_of}
use Rattle.store.specs.Offices.{Office, empty_office, need, office_of, store_words, settings_ok, sound_store, made, clock_of, reveal, hold, Found, current, best_own}

-- "it names this office and was not made here" (10); "it is held with other content" (11)
unfoldable pub entry_code : Office → Entry → ℕ
entry_code O e =
    check (implies (eqb e.office O.own) (is_in O.held (id_of e))) 10
    (check (implies (is_in O.held (id_of e)) (same_content e (O.entry (id_of e)))) 11 0)

-- "for each own entry in order"
unfoldable pub own_code : Office → List Entry → ℕ
own_code O [] = 0
own_code O (e ∷ es) = or_else (entry_code O e) (own_code O es)

-- ---- Readings of one plot and of several

-- "hand back the higher-ranked of that entry and the errand's own entries on the plot, or none"; where one "ties with the presented one, the
-- presented one is handed back"; paper 02, (i): a joint reading "hands back, per plot, the higher-ranked of the presented entry and her own, as a
-- single reading does"
unfoldable pub handed : Office → Content → ℕ → Found
handed O s plot = best_own plot (current O plot) s.own

-- what a reading adds to the session: "add the presented entry's name to the read names and join its clock into the errand's"; 02, (i): "The
-- errand's read names still take the presented entries"
unfoldable pub noted : Found → Content → Content
noted None s = s
noted (Some e) s = record { offices = s.offices; clock = join s.clock e.clock; read = inserted s.read (id_of e); own = s.own }

unfoldable pub noted_all : Office → List ℕ → Content → Content
noted_all O [] s = s
noted_all O (q ∷ qs) s = noted_all O qs (noted (current O q) s)

-- ---- Read one plot

unfoldable pub read_code : Office → Content → ℕ → ℕ
read_code O s plot =
    check (session_ok O.offices O.plots s) 3 (check (ltb plot O.plots) 4 (check (subset_of s.read O.held) 12 0))

-- ---- Read jointly

unfoldable pub plots_ok : ℕ → List ℕ → Bool
plots_ok p [] = true
plots_ok p (q ∷ qs) = both (ltb q p) (plots_ok p qs)

-- "Refusal 13 then never occurs" (02, (i))
unfoldable pub joint_code : Office → Content → List ℕ → ℕ → ℕ
joint_code O s plots room =
    check (session_ok O.offices O.plots s) 3
    (check (both (leb (length plots) 16) (plots_ok O.plots plots)) 4
    (check (leb (3 * length plots) room) 8 (check (subset_of s.read O.held) 12 0)))

-- "three words each: 1, value, name payload; or 0, 0, 0"
unfoldable pub three_words : Found → List ℕ
three_words None = 0 ∷ 0 ∷ 0 ∷ []
three_words (Some e) = 1 ∷ e.value ∷ name_of e ∷ []

unfoldable pub answer_words : List Found → List ℕ
answer_words [] = []
answer_words (f ∷ fs) = three_words f ++ answer_words fs

-- ---- Write

-- "serial one up, clock the join of office and errand clocks with that serial at its own place, dependencies all read names and own entries"
unfoldable pub new_entry : Office → Content → ℕ → ℕ → Entry
new_entry O s plot value =
    record {
      office = O.own;
      serial = made O + 1;
      plot = plot;
      value = value;
      clock = set (join (clock_of O) s.clock) O.own (made O + 1);
      deps = unite s.read (ids_of s.own);
    }

-- the own entries that are not held, in order
abbrev pub missing : Office → List Entry → List Entry
missing O es = leave_out (λ (e : Entry). is_in O.held (id_of e)) es

-- "each own entry not held is held hidden and framed with offices − 2 to hear; .. Last comes the new entry, hidden"
unfoldable pub sent_of : Office → Content → ℕ → ℕ → List Entry
sent_of O s plot value = missing O s.own ++ (new_entry O s plot value ∷ [])

abbrev pub write_sends : Office → Content → ℕ → ℕ → List Frame
write_sends O s plot value = map (framed O.offices (O.offices - 2)) (sent_of O s plot value)

unfoldable pub write_code : Office → Content → ℕ → ℕ → ℕ → ℕ
write_code O s plot value room =
    check (session_ok O.offices O.plots s) 3
    (check (ltb plot O.plots) 4
    (check (ltb value 268435456) 5
    (check (ltb (length s.own) 16) 7
    (check (ltb (made O) 32) 6
    (check (subset_of s.read O.held) 12
    (or_else (own_code O s.own) (check (leb (length (rows_of (write_sends O s plot value))) room) 8 0)))))))

unfoldable pub hold_all : Office → List Entry → Office
hold_all O [] = O
hold_all O (e ∷ es) = hold_all (hold O e) es

-- "It joins the errand's own entries and clock"
unfoldable pub wrote_session : Office → Content → ℕ → ℕ → Content
wrote_session O s plot value =
    record {
      offices = s.offices;
      clock = join s.clock (new_entry O s plot value).clock;
      read = s.read;
      own = s.own ++ (new_entry O s plot value ∷ []);
    }

-- ---- Hear a frame

-- "with one fewer"
abbrev pub onward : Frame → Frame
onward f = framed f.offices (f.hops - 1) f.entry

unfoldable pub receive_code : Office → Frame → ℕ → ℕ
receive_code O f room =
    or_else (entry_code O f.entry)
    (check (subset_of f.entry.deps O.held) 12 (check (either (eqb f.hops 0) (leb (length (frame_words (onward f))) room)) 8 0))

-- "hold it, hidden, if new"
unfoldable pub hold_new : Office → Entry → Office
hold_new O e = cond (is_in O.held (id_of e)) O (hold O e)

-- "If none are still to hear, bring it out"
unfoldable pub received_by : Office → Frame → Office
received_by O f = cond (eqb f.hops 0) (reveal (hold_new O f.entry) (inserted zeros (id_of f.entry))) (hold_new O f.entry)

-- "otherwise write it on with one fewer"
unfoldable pub receive_sends : Frame → List Frame
receive_sends f = cond (eqb f.hops 0) [] (onward f ∷ [])

-- ==== the calls

-- A: a store; B: a frame. The reply (the refusal number or 0, the number of words, the entries handed back), the store, the session and
-- the lent row as the call leaves them, and the frames that it wrote, in row order
pub record Result (A B : Type 0) : Type 0 where
  pub code : ℕ
  pub count : ℕ
  pub found : List Found
  pub store : A
  pub session : Content
  pub row : List ℕ
  pub sent : List B

-- "a refusal number with nothing else and with every lent store, errand and row unchanged"
abbrev pub refusal : {A B : Type 0} → ℕ → A → Content → List ℕ → Result A B
refusal c a s row = record { code = c; count = 0; found = []; store = a; session = s; row = row; sent = [] }

-- the refusal where the code is not 0
abbrev pub given : {A B : Type 0} → ℕ → A → Content → List ℕ → Result A B → Result A B
given zero a s row r = r
given (suc c) a s row r = refusal (suc c) a s row

-- ---- on contents

-- what a reading hands back on each plot, once the read names are brought out
abbrev pub handed_all : Office → Content → List ℕ → List Found
handed_all O s plots = map (handed (reveal O s.read) s) plots

-- an accepted reading of plots, one or several; row: the lent row as it leaves it
abbrev pub read_all : Office → Content → List ℕ → List ℕ → Result Office Frame
read_all O s plots row =
    record {
      code = 0;
      count = 0;
      found = handed_all O s plots;
      store = reveal O s.read;
      session = noted_all (reveal O s.read) plots s;
      row = row;
      sent = [];
    }

unfoldable pub read_on : Office → Content → ℕ → Result Office Frame
read_on O s plot = given (read_code O s plot) O s [] (read_all O s (plot ∷ []) [])

unfoldable pub joint_on : Office → Content → List ℕ → List ℕ → Result Office Frame
joint_on O s plots row = given (joint_code O s plots (length row)) O s row (read_all O s plots (laid (answer_words (handed_all O s plots)) row))

-- "The number of words written is returned"
unfoldable pub write_on : Office → Content → ℕ → ℕ → List ℕ → Result Office Frame
write_on O s plot value row =
    given (write_code O s plot value (length row)) O s row
    (record {
      code = 0;
      count = length (rows_of (write_sends O s plot value));
      found = [];
      store = hold_all O (sent_of O s plot value);
      session = wrote_session O s plot value;
      row = laid (rows_of (write_sends O s plot value)) row;
      sent = write_sends O s plot value;
    })

-- a hearing has no session: that field is a fixed blank
unfoldable pub receive_on : Office → Frame → List ℕ → Result Office Frame
receive_on O f row =
    given (receive_code O f (length row)) O (fresh_content 0) row
    (record {
      code = 0;
      count = length (rows_of (receive_sends f));
      found = [];
      store = received_by O f;
      session = fresh_content 0;
      row = laid (rows_of (receive_sends f)) row;
      sent = receive_sends f;
    })

-- ---- on words

-- a call on a store: "2: store unsound"; else as on its content, and the store is written
abbrev pub stored : ℕ → List ℕ → Office → List ℕ
stored zero ws O = store_words ws O
stored (suc c) ws O = ws

abbrev pub worded : Bool → List ℕ → Content → List ℕ → Result Office Frame → Result (List ℕ) (List ℕ)
worded true ws s row r =
    record { code = r.code; count = r.count; found = r.found; store = stored r.code ws r.store; session = r.session; row = r.row; sent = map frame_words r.sent }
worded false ws s row r = refusal 2 ws s row

-- "The call that gives the store's need refuses such settings with 1 too": code, words
unfoldable pub store_need : ℕ → ℕ → ℕ → ℕ × ℕ
store_need n o p = cond (settings_ok n o p) (0, need n) (1, 0)

-- "Open an office. 1: settings out of range, or own number not below ring size. 2: store too short. Else an office holding nothing": code, store
unfoldable pub open_office : ℕ → ℕ → ℕ → List ℕ → ℕ × List ℕ
open_office n o p ws = cond (settings_ok n o p) (cond (leb (need n) (length ws)) (0, store_words ws (empty_office n o p)) (2, ws)) (1, ws)

-- what a store was opened with, for a host that finds it in a file (no call of paper 01; DECISIONS 28). "2: store unsound"
pub record StoreSettings : Type 0 where
  pub code : ℕ
  pub offices : ℕ
  pub own : ℕ
  pub plots : ℕ

unfoldable pub store_settings : List ℕ → StoreSettings
store_settings ws =
    cond (sound_store ws) (record { code = 0; offices = (office_of ws).offices; own = (office_of ws).own; plots = (office_of ws).plots })
    (record { code = 2; offices = 0; own = 0; plots = 0 })

-- "A fresh errand needs a ring size of 2 to 8, else 1"
unfoldable pub fresh_code : ℕ → ℕ
fresh_code n = check (both (leb 2 n) (leb n 8)) 1 0

unfoldable pub read_plot : List ℕ → Content → ℕ → Result (List ℕ) (List ℕ)
read_plot ws s plot = worded (sound_store ws) ws s [] (read_on (office_of ws) s plot)

unfoldable pub read_joint : List ℕ → Content → List ℕ → List ℕ → Result (List ℕ) (List ℕ)
read_joint ws s plots row = worded (sound_store ws) ws s row (joint_on (office_of ws) s plots row)

unfoldable pub write : List ℕ → Content → ℕ → ℕ → List ℕ → Result (List ℕ) (List ℕ)
write ws s plot value row = worded (sound_store ws) ws s row (write_on (office_of ws) s plot value row)

-- "9: not a frame for this ring and plots"
abbrev pub parsed : Bool → Office → List ℕ → Result Office Frame → Result Office Frame
parsed true O row r = r
parsed false O row r = refusal 9 O (fresh_content 0) row

unfoldable pub receive : List ℕ → List ℕ → List ℕ → Result (List ℕ) (List ℕ)
receive ws frame row =
    worded (sound_store ws) ws (fresh_content 0) row
    (parsed (accepts (office_of ws).offices (office_of ws).plots frame) (office_of ws) row (receive_on (office_of ws) (frame_of frame) row))
