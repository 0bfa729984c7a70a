-- The heads of classes as the rule sees them.
use Rattle.std.specs.Prelude.{ℕ, List, map}
use Rattle.std.specs.Option.{option_map}
use Rattle.std.specs.Borrow.{Bor}
use Rattle.dj_library.specs.trusted.Heads.{Head}
use Rattle.dj_hierarchy_rule.specs.declared.head.ClassHead.{ClassHead}
use Rattle.dj_hierarchy_rule.specs.declared.head.Seen.{Seen}

abbrev pub text_of : Bor (List ℕ) → List ℕ
text_of text = text.now

abbrev pub head_view : ClassHead → Head
head_view head = record {
  name = head.name.now;
  flags = head.flags;
  superclass = option_map text_of head.superclass;
  interfaces = map text_of head.interfaces.items;
}

abbrev pub seen_view : Seen → Head
seen_view head = record {
  name = head.name.now;
  flags = head.flags;
  superclass = option_map text_of head.superclass;
  interfaces = map text_of head.interfaces.now;
}
