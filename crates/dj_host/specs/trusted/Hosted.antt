-- What the host gives in a call.
use Rattle.std.specs.Prelude.{List, length, drop}
use Rattle.dj_edge.specs.declared.host.HostAnswer.{HostAnswer}

-- ---- what the host gives

-- the answers that came after the old ones
abbrev pub given_since : List HostAnswer → List HostAnswer → List HostAnswer
given_since old new = drop (length old) new
