-- The code of each call meets its contract (`_met`), which is its promise in specs/Promises.antt (`_is`) and asks for nothing (`_asks`): a
-- changed `ensures` or an added `requires` breaks this file. Assumes nothing.
use Rattle.std.proofs.Common.{◌≡◌, ℕ, List, refl, Bor, MutBor, Result}
use Rattle.std.specs.Result.{result_unwrap_or}
use base.Fml.{Lft}
use base.Logic.{SProp, emp}
use contract.Monad.{Fun, fact}
use types.Logic.{Logic}
use seplogic.Ra.Ura.{Ura}
use prog.Memory.{Memory}
use prog.Routine.{Routine}
use Rattle.frame.specs.Frames.{blank_frame}
use Rattle.frame.specs.Promises.{ReadFramePromise, ReadTokenPromise, WriteFramePromise, WriteTokenPromise}
use Rattle.frame.specs.Refusals.{code_of, reply_of}
use Rattle.frame.specs.Sessions.{fresh_content, session_of}
use Rattle.frame.specs.declared.entry.Frame.{Frame}
use Rattle.frame.specs.declared.refusal.Refusal.{Refusal}
use Rattle.frame.specs.declared.session.Session.{Session}
use Rattle.frame.proofs.reader.read_frame as ReadFrame
use Rattle.frame.specs.contracts.reader.read_frame as ReadFrameContract
use Rattle.frame.proofs.token.read_token as ReadToken
use Rattle.frame.specs.contracts.token.read_token as ReadTokenContract
use Rattle.frame.proofs.token.write_token as WriteToken
use Rattle.frame.specs.contracts.token.write_token as WriteTokenContract
use Rattle.frame.proofs.writer.write_frame as WriteFrame
use Rattle.frame.specs.contracts.writer.write_frame as WriteFrameContract

-- the lifetimes of as many references
abbrev pub One : Type 0
One = Lft × Unit {0}

abbrev pub Two : Type 0
Two = Lft × One

abbrev pub Three : Type 0
Three = Lft × Two

abbrev pub Four : Type 0
Four = Lft × Three

-- what is lent, a row to read, a row to write or a session: as it came (ws, s), as it is left (ws', s')
abbrev pub Row : Type 0
Row = Bor (List ℕ)

abbrev pub MutRow : Type 0
MutRow = MutBor (List ℕ)

abbrev pub Lent : Type 0
Lent = MutBor Session

module _ {M : Type 1} {𝓤 : Ura M} (𝓛 : Logic 𝓤) (mem : Memory → SProp 𝓤) (run : Routine → Fun 𝓤) where
  pub record FrameContracts : Type 2 where
    pub read_frame_met : ReadFrame.Statement.statement M
    pub read_frame_is : (κs : One) (words : Row) (n p : ℕ) (r : Result Frame Refusal) (words' : Row)
        → (ReadFrameContract.clauses 𝓛 mem run κs (words, (n, (p, tt)))).ensures tt r (words', (n, (p, tt)))
        ≡ fact 𝓤 (ReadFramePromise words.now n p (code_of r) (result_unwrap_or r blank_frame))
    pub read_frame_asks : (κs : One) (words : Row) (n p : ℕ) → (ReadFrameContract.clauses 𝓛 mem run κs (words, (n, (p, tt)))).requires tt ≡ emp 𝓤
    pub write_frame_met : WriteFrame.Statement.statement M
    pub write_frame_is : (κs : One) (f : Frame) (row : MutRow) (r : Result ℕ Refusal) (row' : MutRow)
        → (WriteFrameContract.clauses 𝓛 mem run κs (f, (row, tt))).ensures tt r (f, (row', tt))
        ≡ fact 𝓤 (WriteFramePromise f row.now (reply_of r) row'.now)
    pub write_frame_asks : (κs : One) (f : Frame) (row : MutRow) → (WriteFrameContract.clauses 𝓛 mem run κs (f, (row, tt))).requires tt ≡ emp 𝓤
    pub read_token_met : ReadToken.Statement.statement M
    pub read_token_is : (κs : One) (words : Row) (n p : ℕ) (r : Result Session Refusal) (words' : Row)
        → (ReadTokenContract.clauses 𝓛 mem run κs (words, (n, (p, tt)))).ensures tt r (words', (n, (p, tt)))
        ≡ fact 𝓤 (ReadTokenPromise words.now n p (code_of r) (result_unwrap_or r (session_of (fresh_content 0))))
    pub read_token_asks : (κs : One) (words : Row) (n p : ℕ) → (ReadTokenContract.clauses 𝓛 mem run κs (words, (n, (p, tt)))).requires tt ≡ emp 𝓤
    pub write_token_met : WriteToken.Statement.statement M
    pub write_token_is : (κs : One) (s : Session) (row : MutRow) (r : Result ℕ Refusal) (row' : MutRow)
        → (WriteTokenContract.clauses 𝓛 mem run κs (s, (row, tt))).ensures tt r (s, (row', tt))
        ≡ fact 𝓤 (WriteTokenPromise s row.now (reply_of r) row'.now)
    pub write_token_asks : (κs : One) (s : Session) (row : MutRow) → (WriteTokenContract.clauses 𝓛 mem run κs (s, (row, tt))).requires tt ≡ emp 𝓤

  pub frame_contracts : FrameContracts
  frame_contracts =
      record {
        read_frame_met = ReadFrame.Met.met;
        read_frame_is = λ κs words n p r words'. refl;
        read_frame_asks = λ κs words n p. refl;
        write_frame_met = WriteFrame.Met.met;
        write_frame_is = λ κs f row r row'. refl;
        write_frame_asks = λ κs f row. refl;
        read_token_met = ReadToken.Met.met;
        read_token_is = λ κs words n p r words'. refl;
        read_token_asks = λ κs words n p. refl;
        write_token_met = WriteToken.Met.met;
        write_token_is = λ κs s row r row'. refl;
        write_token_asks = λ κs s row. refl;
      }
