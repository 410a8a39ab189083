-- The calls that host_c exports: the code of each meets its contract (`_met`), which is the promise of the call that it exports, of the answer
-- as C has it (`_is`; of a frame as bytes `CheckPromise`, specs/Bytes.antt; of the version `VersionPromise`, specs/Version.antt), and asks for
-- nothing (`_asks`). Assumes nothing.
use Prim.Native.Nat.{ℕ, ◌≤◌}
use mathlib.Core.Path.{◌≡◌, refl}
use base.Logic.{SProp, emp}
use contract.Monad.{Fun, fact}
use types.Logic.{Logic}
use seplogic.Ra.Ura.{Ura}
use prog.Memory.{Memory}
use prog.Routine.{Routine}
use Rattle.frame.specs.Promises.{ReadFramePromise, ReadTokenPromise, WriteFramePromise, WriteTokenPromise}
use Rattle.frame.specs.declared.entry.Frame.{Frame}
use Rattle.frame.specs.declared.session.Session.{Session}
use Rattle.frame.proofs.Contract.{Four, Lent, MutRow, One, Row, Three, Two}
use Rattle.joining.specs.Promises.{JoinPromise}
use Rattle.office.specs.Promises.{FreshPromise, JointPromise, NeedPromise, OpenPromise, ReadPromise, ReceivePromise, SettingsPromise, WritePromise}
use Rattle.host.specs.Bytes.{CheckPromise}
use Rattle.host.specs.Flags.{is_set}
use Rattle.host.specs.Version.{VersionPromise}
use Rattle.host.specs.declared.answer.FrameAnswer.{FrameAnswer}
use Rattle.host.specs.declared.answer.PlotAnswer.{PlotAnswer}
use Rattle.host.specs.declared.answer.SessionAnswer.{SessionAnswer}
use Rattle.host.specs.declared.answer.SettingsAnswer.{SettingsAnswer}
use Rattle.host.specs.declared.answer.WordsAnswer.{WordsAnswer}
use Rattle.host.specs.declared.answer.WroteAnswer.{WroteAnswer}
use Rattle.host.specs.declared.in_place.PlotFound.{PlotFound}
use Rattle.host.proofs.frames.burial_check_frame as CheckFrame
use Rattle.host.specs.contracts.frames.burial_check_frame as CheckFrameContract
use Rattle.host.proofs.frames.burial_read_frame as ReadFrame
use Rattle.host.specs.contracts.frames.burial_read_frame as ReadFrameContract
use Rattle.host.proofs.frames.burial_write_frame as WriteFrame
use Rattle.host.specs.contracts.frames.burial_write_frame as WriteFrameContract
use Rattle.host.proofs.in_place.burial_lent_read_joint as LentJoint
use Rattle.host.specs.contracts.in_place.burial_lent_read_joint as LentJointContract
use Rattle.host.proofs.in_place.burial_lent_read_plot as LentRead
use Rattle.host.specs.contracts.in_place.burial_lent_read_plot as LentReadContract
use Rattle.host.proofs.in_place.burial_lent_write as LentWrite
use Rattle.host.specs.contracts.in_place.burial_lent_write as LentWriteContract
use Rattle.host.proofs.offices.burial_fresh_session as Fresh
use Rattle.host.specs.contracts.offices.burial_fresh_session as FreshContract
use Rattle.host.proofs.offices.burial_open_office as OpenOffice
use Rattle.host.specs.contracts.offices.burial_open_office as OpenOfficeContract
use Rattle.host.proofs.offices.burial_read_joint as Joint
use Rattle.host.specs.contracts.offices.burial_read_joint as JointContract
use Rattle.host.proofs.offices.burial_read_plot as Read
use Rattle.host.specs.contracts.offices.burial_read_plot as ReadContract
use Rattle.host.proofs.offices.burial_receive as Receive
use Rattle.host.specs.contracts.offices.burial_receive as ReceiveContract
use Rattle.host.proofs.offices.burial_store_need as Need
use Rattle.host.specs.contracts.offices.burial_store_need as NeedContract
use Rattle.host.proofs.offices.burial_store_settings as Settings
use Rattle.host.specs.contracts.offices.burial_store_settings as SettingsContract
use Rattle.host.proofs.offices.burial_write as Write
use Rattle.host.specs.contracts.offices.burial_write as WriteContract
use Rattle.host.proofs.sessions.burial_join_sessions as JoinSessions
use Rattle.host.specs.contracts.sessions.burial_join_sessions as JoinSessionsContract
use Rattle.host.proofs.tokens.burial_read_token as ReadToken
use Rattle.host.specs.contracts.tokens.burial_read_token as ReadTokenContract
use Rattle.host.proofs.tokens.burial_write_token as WriteToken
use Rattle.host.specs.contracts.tokens.burial_write_token as WriteTokenContract
use Rattle.host.proofs.version.burial_version as Version
use Rattle.host.specs.contracts.version.burial_version as VersionContract

module _ {M : Type 1} {𝓤 : Ura M} (𝓛 : Logic 𝓤) (mem : Memory → SProp 𝓤) (run : Routine → Fun 𝓤) where
  pub record HostContracts : Type 2 where
    pub check_frame_met : CheckFrame.Statement.statement M
    pub check_frame_is : (κs : One) (bytes : Row) (n p : ℕ) (r : ℕ) (bytes' : Row)
        → (CheckFrameContract.clauses 𝓛 mem run κs (bytes, (n, (p, tt)))).ensures tt r (bytes', (n, (p, tt)))
        ≡ fact 𝓤 (CheckPromise bytes.now n p r)
    pub check_frame_asks : (κs : One) (bytes : Row) (n p : ℕ) → (CheckFrameContract.clauses 𝓛 mem run κs (bytes, (n, (p, tt)))).requires tt ≡ emp 𝓤
    pub read_frame_met : ReadFrame.Statement.statement M
    pub read_frame_is : (κs : One) (words : Row) (n p : ℕ) (r : FrameAnswer) (words' : Row)
        → (ReadFrameContract.clauses 𝓛 mem run κs (words, (n, (p, tt)))).ensures tt r (words', (n, (p, tt)))
        ≡ fact 𝓤 (ReadFramePromise words.now n p r.refusal r.frame)
    pub read_frame_asks : (κs : One) (words : Row) (n p : ℕ) → (ReadFrameContract.clauses 𝓛 mem run κs (words, (n, (p, tt)))).requires tt ≡ emp 𝓤
    pub write_frame_met : WriteFrame.Statement.statement M
    pub write_frame_is : (κs : One) (f : Frame) (row : MutRow) (r : WordsAnswer) (row' : MutRow)
        → (WriteFrameContract.clauses 𝓛 mem run κs (f, (row, tt))).ensures tt r (f, (row', tt))
        ≡ fact 𝓤 (WriteFramePromise f row.now (record { code = r.refusal; words = r.words }) row'.now)
    pub write_frame_asks : (κs : One) (f : Frame) (row : MutRow) → (WriteFrameContract.clauses 𝓛 mem run κs (f, (row, tt))).requires tt ≡ emp 𝓤
    pub read_token_met : ReadToken.Statement.statement M
    pub read_token_is : (κs : One) (words : Row) (n p : ℕ) (r : SessionAnswer) (words' : Row)
        → (ReadTokenContract.clauses 𝓛 mem run κs (words, (n, (p, tt)))).ensures tt r (words', (n, (p, tt)))
        ≡ fact 𝓤 (ReadTokenPromise words.now n p r.refusal r.session)
    pub read_token_asks : (κs : One) (words : Row) (n p : ℕ) → (ReadTokenContract.clauses 𝓛 mem run κs (words, (n, (p, tt)))).requires tt ≡ emp 𝓤
    pub write_token_met : WriteToken.Statement.statement M
    pub write_token_is : (κs : One) (s : Session) (row : MutRow) (r : WordsAnswer) (row' : MutRow)
        → (WriteTokenContract.clauses 𝓛 mem run κs (s, (row, tt))).ensures tt r (s, (row', tt))
        ≡ fact 𝓤 (WriteTokenPromise s row.now (record { code = r.refusal; words = r.words }) row'.now)
    pub write_token_asks : (κs : One) (s : Session) (row : MutRow) → (WriteTokenContract.clauses 𝓛 mem run κs (s, (row, tt))).requires tt ≡ emp 𝓤
    pub need_met : Need.Statement.statement M
    pub need_is : (n o p : ℕ) (r : WordsAnswer)
        → (NeedContract.clauses 𝓛 mem run tt (n, (o, (p, tt)))).ensures tt r (n, (o, (p, tt)))
        ≡ fact 𝓤 (NeedPromise n o p (record { code = r.refusal; words = r.words }))
    pub need_asks : (n o p : ℕ) → (NeedContract.clauses 𝓛 mem run tt (n, (o, (p, tt)))).requires tt ≡ emp 𝓤
    pub open_met : OpenOffice.Statement.statement M
    pub open_is : (κs : One) (n o p : ℕ) (ws : MutRow) (r : ℕ) (ws' : MutRow)
        → (OpenOfficeContract.clauses 𝓛 mem run κs (n, (o, (p, (ws, tt))))).ensures tt r (n, (o, (p, (ws', tt))))
        ≡ fact 𝓤 (OpenPromise n o p ws.now r ws'.now)
    pub open_asks : (κs : One) (n o p : ℕ) (ws : MutRow) → (OpenOfficeContract.clauses 𝓛 mem run κs (n, (o, (p, (ws, tt))))).requires tt ≡ emp 𝓤
    pub fresh_met : Fresh.Statement.statement M
    pub fresh_is : (n : ℕ) (r : SessionAnswer)
        → (FreshContract.clauses 𝓛 mem run tt (n, tt)).ensures tt r (n, tt)
        ≡ fact 𝓤 (FreshPromise n r.refusal r.session)
    pub fresh_asks : (n : ℕ) → (FreshContract.clauses 𝓛 mem run tt (n, tt)).requires tt ≡ emp 𝓤
    pub join_sessions_met : JoinSessions.Statement.statement M
    pub join_sessions_is : (n p : ℕ) (a b : Session) (r : SessionAnswer)
        → (JoinSessionsContract.clauses 𝓛 mem run tt (n, (p, (a, (b, tt))))).ensures tt r (n, (p, (a, (b, tt))))
        ≡ fact 𝓤 (JoinPromise n p a b r.refusal r.session)
    pub join_sessions_asks : (n p : ℕ) (a b : Session) → (JoinSessionsContract.clauses 𝓛 mem run tt (n, (p, (a, (b, tt))))).requires tt ≡ emp 𝓤
    pub settings_met : Settings.Statement.statement M
    pub settings_is : (κs : One) (ws : Row) (r : SettingsAnswer) (ws' : Row)
        → (SettingsContract.clauses 𝓛 mem run κs (ws, tt)).ensures tt r (ws', tt)
        ≡ fact 𝓤 (SettingsPromise ws.now r.refusal r.offices r.own r.plots)
    pub settings_asks : (κs : One) (ws : Row) → (SettingsContract.clauses 𝓛 mem run κs (ws, tt)).requires tt ≡ emp 𝓤
    pub version_met : Version.Statement.statement M
    pub version_is : (r : ℕ) → (VersionContract.clauses 𝓛 mem run tt tt).ensures tt r tt ≡ fact 𝓤 (VersionPromise r)
    pub version_asks : (VersionContract.clauses 𝓛 mem run tt tt).requires tt ≡ emp 𝓤
    pub read_met : Read.Statement.statement M
    pub read_is : (κs : One) (ws : MutRow) (s : Session) (plot : ℕ) (r : PlotAnswer) (ws' : MutRow)
        → (ReadContract.clauses 𝓛 mem run κs (ws, (s, (plot, tt)))).ensures tt r (ws', (s, (plot, tt)))
        ≡ fact 𝓤 ((r.found ≤ 1) × ReadPromise ws.now s plot r.refusal (is_set r.found) r.entry r.session ws'.now)
    pub read_asks : (κs : One) (ws : MutRow) (s : Session) (plot : ℕ) → (ReadContract.clauses 𝓛 mem run κs (ws, (s, (plot, tt)))).requires tt ≡ emp 𝓤
    pub joint_met : Joint.Statement.statement M
    pub joint_is : (κs : Three) (ws : MutRow) (s : Session) (plots : Row) (row : MutRow) (r : SessionAnswer) (ws' : MutRow) (plots' : Row) (row' : MutRow)
        → (JointContract.clauses 𝓛 mem run κs (ws, (s, (plots, (row, tt))))).ensures tt r (ws', (s, (plots', (row', tt))))
        ≡ fact 𝓤 (JointPromise ws.now s plots.now row.now r.refusal r.session ws'.now row'.now)
    pub joint_asks : (κs : Three) (ws : MutRow) (s : Session) (plots : Row) (row : MutRow) → (JointContract.clauses 𝓛 mem run κs (ws, (s, (plots, (row, tt))))).requires tt ≡ emp 𝓤
    pub write_met : Write.Statement.statement M
    pub write_is : (κs : Two) (ws : MutRow) (s : Session) (plot value : ℕ) (row : MutRow) (r : WroteAnswer) (ws' row' : MutRow)
        → (WriteContract.clauses 𝓛 mem run κs (ws, (s, (plot, (value, (row, tt)))))).ensures tt r (ws', (s, (plot, (value, (row', tt)))))
        ≡ fact 𝓤 (WritePromise ws.now s plot value row.now (record { code = r.refusal; words = r.words }) r.session ws'.now row'.now)
    pub write_asks : (κs : Two) (ws : MutRow) (s : Session) (plot value : ℕ) (row : MutRow) → (WriteContract.clauses 𝓛 mem run κs (ws, (s, (plot, (value, (row, tt)))))).requires tt ≡ emp 𝓤
    pub receive_met : Receive.Statement.statement M
    pub receive_is : (κs : Three) (ws : MutRow) (frame : Row) (row : MutRow) (r : WordsAnswer) (ws' : MutRow) (frame' : Row) (row' : MutRow)
        → (ReceiveContract.clauses 𝓛 mem run κs (ws, (frame, (row, tt)))).ensures tt r (ws', (frame', (row', tt)))
        ≡ fact 𝓤 (ReceivePromise ws.now frame.now row.now (record { code = r.refusal; words = r.words }) ws'.now row'.now)
    pub receive_asks : (κs : Three) (ws : MutRow) (frame : Row) (row : MutRow) → (ReceiveContract.clauses 𝓛 mem run κs (ws, (frame, (row, tt)))).requires tt ≡ emp 𝓤
    pub lent_read_met : LentRead.Statement.statement M
    pub lent_read_is : (κs : Two) (ws : MutRow) (s : Lent) (plot : ℕ) (r : PlotFound) (ws' : MutRow) (s' : Lent)
        → (LentReadContract.clauses 𝓛 mem run κs (ws, (s, (plot, tt)))).ensures tt r (ws', (s', (plot, tt)))
        ≡ fact 𝓤 ((r.found ≤ 1) × ReadPromise ws.now s.now plot r.refusal (is_set r.found) r.entry s'.now ws'.now)
    pub lent_read_asks : (κs : Two) (ws : MutRow) (s : Lent) (plot : ℕ) → (LentReadContract.clauses 𝓛 mem run κs (ws, (s, (plot, tt)))).requires tt ≡ emp 𝓤
    pub lent_joint_met : LentJoint.Statement.statement M
    pub lent_joint_is : (κs : Four) (ws : MutRow) (s : Lent) (plots : Row) (row : MutRow) (r : ℕ) (ws' : MutRow) (s' : Lent) (plots' : Row) (row' : MutRow)
        → (LentJointContract.clauses 𝓛 mem run κs (ws, (s, (plots, (row, tt))))).ensures tt r (ws', (s', (plots', (row', tt))))
        ≡ fact 𝓤 (JointPromise ws.now s.now plots.now row.now r s'.now ws'.now row'.now)
    pub lent_joint_asks : (κs : Four) (ws : MutRow) (s : Lent) (plots : Row) (row : MutRow) → (LentJointContract.clauses 𝓛 mem run κs (ws, (s, (plots, (row, tt))))).requires tt ≡ emp 𝓤
    pub lent_write_met : LentWrite.Statement.statement M
    pub lent_write_is : (κs : Three) (ws : MutRow) (s : Lent) (plot value : ℕ) (row : MutRow) (r : WordsAnswer) (ws' : MutRow) (s' : Lent) (row' : MutRow)
        → (LentWriteContract.clauses 𝓛 mem run κs (ws, (s, (plot, (value, (row, tt)))))).ensures tt r (ws', (s', (plot, (value, (row', tt)))))
        ≡ fact 𝓤 (WritePromise ws.now s.now plot value row.now (record { code = r.refusal; words = r.words }) s'.now ws'.now row'.now)
    pub lent_write_asks : (κs : Three) (ws : MutRow) (s : Lent) (plot value : ℕ) (row : MutRow) → (LentWriteContract.clauses 𝓛 mem run κs (ws, (s, (plot, (value, (row, tt)))))).requires tt ≡ emp 𝓤

  pub host_contracts : HostContracts
  host_contracts =
      record {
        check_frame_met = CheckFrame.Met.met;
        check_frame_is = λ κs bytes n p r bytes'. refl;
        check_frame_asks = λ κs bytes n p. refl;
        read_frame_met = ReadFrame.Met.met;
        read_frame_is = λ κs words n p r words'. refl;
        read_frame_asks = λ κs words n p. refl;
        write_frame_met = WriteFrame.Met.met;
        write_frame_is = λ κs f row r row'. refl;
        write_frame_asks = λ κs f row. refl;
        read_token_met = ReadToken.Met.met;
        read_token_is = λ κs words n p r words'. refl;
        read_token_asks = λ κs words n p. refl;
        write_token_met = WriteToken.Met.met;
        write_token_is = λ κs s row r row'. refl;
        write_token_asks = λ κs s row. refl;
        need_met = Need.Met.met;
        need_is = λ n o p r. refl;
        need_asks = λ n o p. refl;
        open_met = OpenOffice.Met.met;
        open_is = λ κs n o p ws r ws'. refl;
        open_asks = λ κs n o p ws. refl;
        fresh_met = Fresh.Met.met;
        fresh_is = λ n r. refl;
        fresh_asks = λ n. refl;
        join_sessions_met = JoinSessions.Met.met;
        join_sessions_is = λ n p a b r. refl;
        join_sessions_asks = λ n p a b. refl;
        settings_met = Settings.Met.met;
        settings_is = λ κs ws r ws'. refl;
        settings_asks = λ κs ws. refl;
        version_met = Version.Met.met;
        version_is = λ r. refl;
        version_asks = refl;
        read_met = Read.Met.met;
        read_is = λ κs ws s plot r ws'. refl;
        read_asks = λ κs ws s plot. refl;
        joint_met = Joint.Met.met;
        joint_is = λ κs ws s plots row r ws' plots' row'. refl;
        joint_asks = λ κs ws s plots row. refl;
        write_met = Write.Met.met;
        write_is = λ κs ws s plot value row r ws' row'. refl;
        write_asks = λ κs ws s plot value row. refl;
        receive_met = Receive.Met.met;
        receive_is = λ κs ws frame row r ws' frame' row'. refl;
        receive_asks = λ κs ws frame row. refl;
        lent_read_met = LentRead.Met.met;
        lent_read_is = λ κs ws s plot r ws' s'. refl;
        lent_read_asks = λ κs ws s plot. refl;
        lent_joint_met = LentJoint.Met.met;
        lent_joint_is = λ κs ws s plots row r ws' s' plots' row'. refl;
        lent_joint_asks = λ κs ws s plots row. refl;
        lent_write_met = LentWrite.Met.met;
        lent_write_is = λ κs ws s plot value row r ws' s' row'. refl;
        lent_write_asks = λ κs ws s plot value row. refl;
      }
