use Rattle.std.proofs.Common.{sym, subst, ◌∙◌}
use Rattle.dj_image.specs.Imaged.{typed_of}
use Rattle.dj_class_set.proofs.RawLaws.{entry_described}
use Rattle.dj_sandbox.proofs.EntryLaws.{number_of_type, has_class, entry_reported, IsEntryOrNone}
use Rattle.dj_sandbox.proofs.entry.entry_in.Goals as goal

pub unreachable-requires : goal.unreachable-requires
unreachable-requires c = has_class c.args.image.now c.args.entry.now c.requires (sym c.class_named.ensures ∙ c.in_default.is)

pub resolve_method-requires : goal.resolve_method-requires
resolve_method-requires c = number_of_type (typed_of c.args.image.now) c.args.entry.now c.in-Some.class (sym c.class_named.ensures ∙ c.in-Some.is)

pub unreachable-requires-in-None : goal.unreachable-requires-in-None
unreachable-requires-in-None c =
    let reported = entry_reported c.args.image.now c.args.entry.now c.requires c.in-Some.class c.resolve_method.result (sym c.class_named.ensures ∙ c.in-Some.is) (c.resolve_method.ensures.found entry_described) in
    subst (IsEntryOrNone c.args.image.now c.args.entry.now c.requires) c.in-None.is reported

pub returns : goal.returns
returns c =
    let reported = entry_reported c.args.image.now c.args.entry.now c.requires c.in-Some.class c.resolve_method.result (sym c.class_named.ensures ∙ c.in-Some.is) (c.resolve_method.ensures.found entry_described) in
    subst (IsEntryOrNone c.args.image.now c.args.entry.now c.requires) c.in-Some-resolve_method.is reported
