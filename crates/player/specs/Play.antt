-- What a line of a script does to a ring of three offices with 64 plots, and what it is replied. Paper 01, "The ring program". Assumes nothing.
use Rattle.std.specs.Prelude.{ℕ, suc, zero, Bool, cond, not, List, [], ◌∷◌, leb, ltb, get_or, length, set, None, Some}
use Rattle.causal.specs.Tests.{all_below, both}
use Rattle.frame.specs.declared.entry.Entry.{Entry}
use Rattle.store.specs.Offices.{Found}
use Rattle.office.specs.Calls.{read_plot, receive, write}
use Rattle.ring.specs.Run.{Call, State, Tracked, at, fresh, last_of, over_words, reading, receiving, step, words_run, writing}
use Rattle.script.specs.declared.line.Line.{Line}
use Rattle.script.specs.declared.line.Line.TheVariants.{Move, Other, Read, Receive, Write}
use Rattle.script.specs.declared.reply.Reply.{Reply}
use Rattle.script.specs.declared.reply.Reply.TheVariants.{Found as FoundEntry, Full, Moved, NoEntry, NoFrame, Odd, Received, Refused, Wrote}

abbrev pub Ring : Type 0
Ring = State (List ℕ) (List ℕ) (List ℕ)

-- the ring, and at which office each session's next call is
pub record Scene : Type 0 where
  pub ring : Ring
  pub place : List ℕ

-- "over 32 frames waiting at one office"
unfoldable pub crowded : Ring → Bool
crowded g = not (all_below 3 (λ o. leb (length (g.lines o)) 32))

abbrev pub called : Scene → Call → Scene
called g c = record { ring = step over_words 3 g.ring c; place = g.place }

-- a call that the office answers with the refusal number code, 0 for none: "`refused` and number"; "`full` if a call not refused would leave
-- over 32 frames waiting at one office, nothing changed"; else the reply
unfoldable pub settled : Scene → Call → ℕ → Reply → Scene × Reply
settled g c zero reply = cond (crowded (called g c).ring) (g, Full) (called g c, reply)
settled g c (suc k) reply = (called g c, Refused (suc k))

-- "`W` and name": the name of the newest own entry
unfoldable pub wrote_reply : List Entry → Reply
wrote_reply own = Wrote (last_of own).office (last_of own).serial

-- "`R` value and name, or `R none`"
unfoldable pub read_reply : List Found → Reply
read_reply [] = NoEntry
read_reply (None ∷ fs) = NoEntry
read_reply (Some e ∷ fs) = FoundEntry e.value e.office e.serial

-- session i, which is at the office o, writes
unfoldable pub play_write : List ℕ → Scene → ℕ → ℕ → ℕ → ℕ → List Tracked → Scene × Reply
play_write row g o i plot value [] = (g, Odd)
play_write row g o i plot value (r ∷ rs) =
    settled g (writing o i plot value row) (write (g.ring.stores o) r.session plot value row).code
    (wrote_reply (write (g.ring.stores o) r.session plot value row).session.own)

unfoldable pub play_read : Scene → ℕ → ℕ → ℕ → List Tracked → Scene × Reply
play_read g o i plot [] = (g, Odd)
play_read g o i plot (r ∷ rs) =
    settled g (reading o i plot) (read_plot (g.ring.stores o) r.session plot).code (read_reply (read_plot (g.ring.stores o) r.session plot).found)

-- "`H` and frames still waiting there, or `H none`"
unfoldable pub play_receive : List ℕ → Scene → ℕ → List (List ℕ) → Scene × Reply
play_receive row g o [] = (g, NoFrame)
play_receive row g o (f ∷ fs) = settled g (receiving o row) (receive (g.ring.stores o) f row).code (Received (length fs))

abbrev pub moved : Scene → ℕ → ℕ → Scene
moved g i o = record { ring = g.ring; place = set g.place i o }

abbrev pub place_of : Scene → ℕ → ℕ
place_of g i = get_or g.place i 0

-- a line; row is the out row as it came. "errands above 3 and offices above 2 also give `line?`"
unfoldable pub play : List ℕ → Scene → Line → Scene × Reply
play row g (Write i plot value) = cond (ltb i 4) (play_write row g (place_of g i) i plot value (at g.ring.sessions i)) (g, Odd)
play row g (Read i plot) = cond (ltb i 4) (play_read g (place_of g i) i plot (at g.ring.sessions i)) (g, Odd)
play row g (Move i o) = cond (both (ltb i 4) (ltb o 3)) (moved g i o, Moved) (g, Odd)
play row g (Receive o) = cond (ltb o 3) (play_receive row g o (g.ring.lines o)) (g, Odd)
play row g Other = (g, Odd)

-- "errands 0 to 3": four fresh ones
abbrev pub starts : List Call
starts = fresh 3 ∷ fresh 3 ∷ fresh 3 ∷ fresh 3 ∷ []

-- "3 offices, 64 plots, errands 0 to 3 starting at office 0": rows are the stores as they came
abbrev pub opening : (ℕ → List ℕ) → Scene
opening rows = record { ring = words_run 3 64 rows starts; place = 0 ∷ 0 ∷ 0 ∷ 0 ∷ [] }

-- lines one after another, each with the out row as it came: the scene after them, and the replies
unfoldable pub play_all : Scene → List (List ℕ × Line) → Scene × List Reply
play_all g [] = (g, [])
play_all g ((row, line) ∷ rest) = ((play_all (play row g line).0 rest).0, (play row g line).1 ∷ (play_all (play row g line).0 rest).1)
