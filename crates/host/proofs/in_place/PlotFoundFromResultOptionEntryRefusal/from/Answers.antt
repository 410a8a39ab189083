use Rattle.std.proofs.Common.{ap, ap₂, ◌∙◌}
use Rattle.std.specs.Option.{is_some, unwrap_or}
use Rattle.host.proofs.Flags.{flag_low, flag_says}
use Rattle.host.proofs.in_place.PlotFoundFromResultOptionEntryRefusal.from.Goals as goal

pub returns : goal.returns
returns c = let d = c.unwrap_or-entry.ensures in (
  flag_low _ _ c.from.ensures,
  c.code_of-refusal.ensures,
  flag_says _ _ c.from.ensures ∙ c.is_some.ensures ∙ ap is_some d,
  c.unwrap_or.ensures ∙ ap₂ unwrap_or d c.blank_entry.ensures,
)
