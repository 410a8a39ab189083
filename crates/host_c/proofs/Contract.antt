-- The code of each export meets its contract (`_met`), which is that of host's function of its name (`_is`); that one is the promise of the call and
-- asks for nothing (Contract.antt of host): a changed `ensures` or an added `requires` breaks this file. Assumes nothing.
use Rattle.std.proofs.Common.{◌≡◌, refl}
use base.Logic.{SProp}
use contract.Monad.{Fun}
use types.Logic.{Logic}
use seplogic.Ra.Ura.{Ura}
use prog.Memory.{Memory}
use prog.Routine.{Routine}
use Rattle.host.specs.contracts.frames.burial_check_frame as CheckFrame
use Rattle.host_c.proofs.frames.burial_check_frame as CheckFrameExport
use Rattle.host_c.specs.contracts.frames.burial_check_frame as CheckFrameExported
use Rattle.host.specs.contracts.frames.burial_read_frame as ReadFrame
use Rattle.host_c.proofs.frames.burial_read_frame as ReadFrameExport
use Rattle.host_c.specs.contracts.frames.burial_read_frame as ReadFrameExported
use Rattle.host.specs.contracts.frames.burial_write_frame as WriteFrame
use Rattle.host_c.proofs.frames.burial_write_frame as WriteFrameExport
use Rattle.host_c.specs.contracts.frames.burial_write_frame as WriteFrameExported
use Rattle.host.specs.contracts.in_place.burial_lent_read_joint as LentJoint
use Rattle.host_c.proofs.in_place.burial_lent_read_joint as LentJointExport
use Rattle.host_c.specs.contracts.in_place.burial_lent_read_joint as LentJointExported
use Rattle.host.specs.contracts.in_place.burial_lent_read_plot as LentRead
use Rattle.host_c.proofs.in_place.burial_lent_read_plot as LentReadExport
use Rattle.host_c.specs.contracts.in_place.burial_lent_read_plot as LentReadExported
use Rattle.host.specs.contracts.in_place.burial_lent_write as LentWrite
use Rattle.host_c.proofs.in_place.burial_lent_write as LentWriteExport
use Rattle.host_c.specs.contracts.in_place.burial_lent_write as LentWriteExported
use Rattle.host.specs.contracts.offices.burial_fresh_session as Fresh
use Rattle.host_c.proofs.offices.burial_fresh_session as FreshExport
use Rattle.host_c.specs.contracts.offices.burial_fresh_session as FreshExported
use Rattle.host.specs.contracts.offices.burial_open_office as OpenOffice
use Rattle.host_c.proofs.offices.burial_open_office as OpenOfficeExport
use Rattle.host_c.specs.contracts.offices.burial_open_office as OpenOfficeExported
use Rattle.host.specs.contracts.offices.burial_read_joint as Joint
use Rattle.host_c.proofs.offices.burial_read_joint as JointExport
use Rattle.host_c.specs.contracts.offices.burial_read_joint as JointExported
use Rattle.host.specs.contracts.offices.burial_read_plot as Read
use Rattle.host_c.proofs.offices.burial_read_plot as ReadExport
use Rattle.host_c.specs.contracts.offices.burial_read_plot as ReadExported
use Rattle.host.specs.contracts.offices.burial_receive as Receive
use Rattle.host_c.proofs.offices.burial_receive as ReceiveExport
use Rattle.host_c.specs.contracts.offices.burial_receive as ReceiveExported
use Rattle.host.specs.contracts.offices.burial_store_need as Need
use Rattle.host_c.proofs.offices.burial_store_need as NeedExport
use Rattle.host_c.specs.contracts.offices.burial_store_need as NeedExported
use Rattle.host.specs.contracts.offices.burial_store_settings as Settings
use Rattle.host_c.proofs.offices.burial_store_settings as SettingsExport
use Rattle.host_c.specs.contracts.offices.burial_store_settings as SettingsExported
use Rattle.host.specs.contracts.offices.burial_write as Write
use Rattle.host_c.proofs.offices.burial_write as WriteExport
use Rattle.host_c.specs.contracts.offices.burial_write as WriteExported
use Rattle.host.specs.contracts.sessions.burial_join_sessions as JoinSessions
use Rattle.host_c.proofs.sessions.burial_join_sessions as JoinSessionsExport
use Rattle.host_c.specs.contracts.sessions.burial_join_sessions as JoinSessionsExported
use Rattle.host.specs.contracts.tokens.burial_read_token as ReadToken
use Rattle.host_c.proofs.tokens.burial_read_token as ReadTokenExport
use Rattle.host_c.specs.contracts.tokens.burial_read_token as ReadTokenExported
use Rattle.host.specs.contracts.tokens.burial_write_token as WriteToken
use Rattle.host_c.proofs.tokens.burial_write_token as WriteTokenExport
use Rattle.host_c.specs.contracts.tokens.burial_write_token as WriteTokenExported
use Rattle.host.specs.contracts.version.burial_version as Version
use Rattle.host_c.proofs.version.burial_version as VersionExport
use Rattle.host_c.specs.contracts.version.burial_version as VersionExported

module _ {M : Type 1} {𝓤 : Ura M} (𝓛 : Logic 𝓤) (mem : Memory → SProp 𝓤) (run : Routine → Fun 𝓤) where
  pub record ExportContracts : Type 2 where
    pub check_frame_met : CheckFrameExport.Statement.statement M
    pub check_frame_is : CheckFrameExported.clauses 𝓛 mem run ≡ CheckFrame.clauses 𝓛 mem run
    pub read_frame_met : ReadFrameExport.Statement.statement M
    pub read_frame_is : ReadFrameExported.clauses 𝓛 mem run ≡ ReadFrame.clauses 𝓛 mem run
    pub write_frame_met : WriteFrameExport.Statement.statement M
    pub write_frame_is : WriteFrameExported.clauses 𝓛 mem run ≡ WriteFrame.clauses 𝓛 mem run
    pub lent_read_joint_met : LentJointExport.Statement.statement M
    pub lent_read_joint_is : LentJointExported.clauses 𝓛 mem run ≡ LentJoint.clauses 𝓛 mem run
    pub lent_read_plot_met : LentReadExport.Statement.statement M
    pub lent_read_plot_is : LentReadExported.clauses 𝓛 mem run ≡ LentRead.clauses 𝓛 mem run
    pub lent_write_met : LentWriteExport.Statement.statement M
    pub lent_write_is : LentWriteExported.clauses 𝓛 mem run ≡ LentWrite.clauses 𝓛 mem run
    pub fresh_session_met : FreshExport.Statement.statement M
    pub fresh_session_is : FreshExported.clauses 𝓛 mem run ≡ Fresh.clauses 𝓛 mem run
    pub open_office_met : OpenOfficeExport.Statement.statement M
    pub open_office_is : OpenOfficeExported.clauses 𝓛 mem run ≡ OpenOffice.clauses 𝓛 mem run
    pub read_joint_met : JointExport.Statement.statement M
    pub read_joint_is : JointExported.clauses 𝓛 mem run ≡ Joint.clauses 𝓛 mem run
    pub read_plot_met : ReadExport.Statement.statement M
    pub read_plot_is : ReadExported.clauses 𝓛 mem run ≡ Read.clauses 𝓛 mem run
    pub receive_met : ReceiveExport.Statement.statement M
    pub receive_is : ReceiveExported.clauses 𝓛 mem run ≡ Receive.clauses 𝓛 mem run
    pub store_need_met : NeedExport.Statement.statement M
    pub store_need_is : NeedExported.clauses 𝓛 mem run ≡ Need.clauses 𝓛 mem run
    pub store_settings_met : SettingsExport.Statement.statement M
    pub store_settings_is : SettingsExported.clauses 𝓛 mem run ≡ Settings.clauses 𝓛 mem run
    pub write_met : WriteExport.Statement.statement M
    pub write_is : WriteExported.clauses 𝓛 mem run ≡ Write.clauses 𝓛 mem run
    pub join_sessions_met : JoinSessionsExport.Statement.statement M
    pub join_sessions_is : JoinSessionsExported.clauses 𝓛 mem run ≡ JoinSessions.clauses 𝓛 mem run
    pub read_token_met : ReadTokenExport.Statement.statement M
    pub read_token_is : ReadTokenExported.clauses 𝓛 mem run ≡ ReadToken.clauses 𝓛 mem run
    pub write_token_met : WriteTokenExport.Statement.statement M
    pub write_token_is : WriteTokenExported.clauses 𝓛 mem run ≡ WriteToken.clauses 𝓛 mem run
    pub version_met : VersionExport.Statement.statement M
    pub version_is : VersionExported.clauses 𝓛 mem run ≡ Version.clauses 𝓛 mem run

  pub export_contracts : ExportContracts
  export_contracts =
      record {
        check_frame_met = CheckFrameExport.Met.met;
        check_frame_is = refl;
        read_frame_met = ReadFrameExport.Met.met;
        read_frame_is = refl;
        write_frame_met = WriteFrameExport.Met.met;
        write_frame_is = refl;
        lent_read_joint_met = LentJointExport.Met.met;
        lent_read_joint_is = refl;
        lent_read_plot_met = LentReadExport.Met.met;
        lent_read_plot_is = refl;
        lent_write_met = LentWriteExport.Met.met;
        lent_write_is = refl;
        fresh_session_met = FreshExport.Met.met;
        fresh_session_is = refl;
        open_office_met = OpenOfficeExport.Met.met;
        open_office_is = refl;
        read_joint_met = JointExport.Met.met;
        read_joint_is = refl;
        read_plot_met = ReadExport.Met.met;
        read_plot_is = refl;
        receive_met = ReceiveExport.Met.met;
        receive_is = refl;
        store_need_met = NeedExport.Met.met;
        store_need_is = refl;
        store_settings_met = SettingsExport.Met.met;
        store_settings_is = refl;
        write_met = WriteExport.Met.met;
        write_is = refl;
        join_sessions_met = JoinSessionsExport.Met.met;
        join_sessions_is = refl;
        read_token_met = ReadTokenExport.Met.met;
        read_token_is = refl;
        write_token_met = WriteTokenExport.Met.met;
        write_token_is = refl;
        version_met = VersionExport.Met.met;
        version_is = refl;
      }
