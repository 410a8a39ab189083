-- What the parts of the player promise. Assumes nothing.
use Rattle.std.specs.Prelude.{ℕ, ◌+◌, ◌-◌, ◌<◌, ◌≤◌, IsOk, List, None, Ok, Err, Option, Result, Some, set, ◌≡◌, ⊤}
use Rattle.frame.specs.Refusals.{number_of}
use Rattle.frame.specs.declared.entry.Entry.{Entry}
use Rattle.frame.specs.declared.session.Session.{Session}
use Rattle.office.specs.Answers.{extended_by}
use Rattle.office.specs.Decide.{with_seen}
use Rattle.office.specs.declared.note.Seen.{Seen}
use Rattle.script.specs.declared.reply.Reply.{Reply}
use Rattle.script.specs.declared.reply.Reply.TheVariants.{Found as FoundEntry, Full as FullReply, NoEntry, Received, Refused as RefusedReply, Wrote}
use Rattle.script.specs.declared.line.Line.{Line}
use Rattle.script.specs.declared.line.Line.TheVariants.{Move, Other, Read, Receive, Write}
use Rattle.player.specs.declared.ahead.Stay.{Stay}
use Rattle.player.specs.declared.ahead.Stay.TheVariants.{Full, Refused}
use Rattle.player.specs.declared.board.Board.{Board}
use Rattle.player.specs.Desks.{Desk, count_at, desk}
use Rattle.player.specs.Play.{Scene, play}
use Rattle.player.specs.Shows.{Shows}

-- what is said before a call that the office answers with the refusal number code, 0 for none, and that sends so many frames to a line where others
-- wait: "`full` if a call not refused would leave over 32 frames waiting at one office"
abbrev pub Foretells : ℕ → ℕ → ℕ → Result ⊤ Stay → Type 0
Foretells code sent waiting (Ok _) = code ≡ 0 → waiting + sent ≤ 32
Foretells code sent waiting (Err Full) = (code ≡ 0) × (32 < waiting + sent)
Foretells code sent waiting (Err (Refused x)) = code ≡ number_of x

-- the reply where all stays
abbrev pub stay_reply : Stay → Reply
stay_reply Full = FullReply
stay_reply (Refused x) = RefusedReply (number_of x)

abbrev pub entry_reply : Option Entry → Reply
entry_reply (Some e) = FoundEntry e.value e.office e.serial
entry_reply None = NoEntry

-- the session after a reading, by what it has seen
abbrev pub after_read : Session → Option Seen → Session
after_read s (Some x) = with_seen s x
after_read s None = s

-- the session after a write, by the entry that was made
abbrev pub after_write : Session → Option Entry → Session
after_write s (Some e) = extended_by s e
after_write s None = s

-- the line, where no session plays it
abbrev pub sessionless : Line → Line
sessionless (Write i plot value) = Other
sessionless (Read i plot) = Other
sessionless (Move i o) = Move i o
sessionless (Receive o) = Receive o
sessionless Other = Other

pub record Played : Type 0 where
  pub desk : Desk
  pub reply : Reply

-- a session that wrote carried less than 16 own writes
abbrev pub Few : Session → Result (Board × Entry) Stay → Type 0
Few s r = IsOk r → s.count < 16

-- what session i, which is s, has played by a write
abbrev pub written : List Session → ℕ → Session → Board → Result (Board × Entry) Stay → Played
written ss i s b (Ok (b', e)) = record { desk = desk (set ss i (extended_by s e)) b'; reply = Wrote e.office e.serial }
written ss i s b (Err x) = record { desk = desk (set ss i s) b; reply = stay_reply x }

-- what the office o has played by a hearing
abbrev pub received : List Session → ℕ → Board → Result Board Stay → Played
received ss o b (Ok b') = record { desk = desk ss b'; reply = Received (count_at (desk ss b) o - 1) }
received ss o b (Err x) = record { desk = desk ss b; reply = stay_reply x }

-- the scene g was shown: what is shown now is the scene that the line leaves, and the reply is its reply
pub record Plays (row : List ℕ) (g : Scene) (line : Line) (r : Played) (stores' lines' : List ℕ) : Type 0 where
  pub shows : Shows (play row g line).0 r.desk stores' lines'
  pub reply : r.reply ≡ (play row g line).1
