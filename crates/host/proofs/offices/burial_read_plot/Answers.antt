use native.Mathlib.Omega.{arith}
use mathlib.Core.Path.{◌∙◌, ap, sym}
use Rattle.std.specs.Option.{unwrap_or}
use Rattle.reading.specs.Answers.{entry_by, found_by, handed_by, session_by}
use Rattle.host.specs.Flags.{is_set}
use Rattle.host.proofs.Flags.{flag_low, flag_says}
use Rattle.host.proofs.offices.burial_read_plot.Goals as goal

pub returns-in_default : goal.returns-in_default
unfolding handed_by session_by is_set
returns-in_default c =
    let h = c.read_plot-read.ensures in
    let e = c.in_default.is in (
      omega arith,
      (
        c.code_of-refusal.ensures ∙ h.0,
        sym (ap found_by e) ∙ h.1,
        c.blank_entry.ensures ∙ sym (ap entry_by e) ∙ h.2,
        sym (ap (session_by c.args.session) e) ∙ h.3,
        h.4,
      ),
    )

pub returns : goal.returns
unfolding handed_by session_by
returns c =
    let h = c.read_plot-read.ensures in
    let e = c.in-Ok.is in (
      flag_low _ _ c.from.ensures,
      (
        c.code_of-refusal.ensures ∙ h.0,
        flag_says _ _ c.from.ensures ∙ c.is_some.ensures ∙ sym (ap found_by e) ∙ h.1,
        c.unwrap_or.ensures ∙ ap (unwrap_or c.in-Ok.field-0.entry) c.blank_entry-2.ensures ∙ sym (ap entry_by e) ∙ h.2,
        sym (ap (session_by c.args.session) e) ∙ h.3,
        h.4,
      ),
    )
