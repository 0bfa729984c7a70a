-- Beside trusted/Types.antt: what no clause of the call `djvm` reaches.
use Rattle.dj_names.specs.trusted.Types.{Name}
use Rattle.dj_names.specs.Types.{type_map, desc_map}
use Rattle.dj_model.specs.trusted.Types.{Member, Declared}

abbrev pub member_map : (Name → Name) → Member → Member
member_map f m = record { class = type_map f m.class; name = m.name; desc = desc_map f m.desc }

abbrev pub declared_map : (Name → Name) → Declared → Declared
declared_map f m = record { class = f m.class; name = m.name; desc = desc_map f m.desc }
