-- Used by the code alone: how the run goes on, by families of instructions.
use Rattle.std.specs.Prelude.{Option, Some, None}
use Rattle.dj_names.specs.declared.run.Raised.TheVariants as raises
use Rattle.dj_effects.specs.declared.way.Way.{Way}
use Rattle.dj_effects.specs.declared.way.Way.TheVariants as ways
use Rattle.dj_effects.specs.declared.way.Flow.{Flow}
use Rattle.dj_effects.specs.declared.way.Flow.TheVariants as flows
use Rattle.dj_member_effects.specs.declared.objects.Thrown.{Thrown}
use Rattle.dj_member_effects.specs.declared.objects.Thrown.TheVariants as thrown
use Rattle.dj_image_effects.specs.declared.acted.Acted.{Acted}
use Rattle.dj_image_effects.specs.declared.acted.Acted.TheVariants as acts

abbrev pub way_acted : Option Way → Acted
way_acted None = acts.Stuck
way_acted (Some way) = acts.Goes way

abbrev pub flow_acted : Option Flow → Acted
flow_acted None = acts.Stuck
flow_acted (Some (flows.Goes way)) = acts.Goes way
flow_acted (Some flows.Link) = acts.Link
flow_acted (Some (flows.HeapFull used size)) = acts.HeapFull used size

abbrev pub thrown_acted : Option Thrown → Acted
thrown_acted None = acts.Stuck
thrown_acted (Some (thrown.Catch r)) = acts.Catch r
thrown_acted (Some thrown.Null) = acts.Goes (ways.Raise raises.NullPointer)
thrown_acted (Some thrown.Link) = acts.Link
