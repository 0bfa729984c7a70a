use Rattle.std.proofs.Common.{◌<◌, ◌^◌, [], length}
use Rattle.std.proofs.lemmas.List.Elements.{All-nil, All-cons}
use Rattle.dj_report.specs.declared.report.PathFile.{PathFile}
use Rattle.dj_early_rules.specs.trusted.Malformed.{IsRefused}
use Rattle.dj_loader_tests.proofs.judged.links_of.Goals as goal

pub links-requires-clause-short : goal.links-requires-clause-short
links-requires-clause-short c =
    let IsShort = λ (file : PathFile). length file.bytes.now < 2 ^ 32 in
    All-cons IsShort c.args.file [] c.requires.short (All-nil IsShort)

pub links-requires-clause-whole : goal.links-requires-clause-whole
links-requires-clause-whole c =
    let IsWhole = λ (file : PathFile). IsRefused file.bytes.now → ⊥ in
    All-cons IsWhole c.args.file [] c.requires.whole (All-nil IsWhole)
