use Rattle.std.proofs.Common.{ℕ, List, ◌++◌, codes, ap, ◌∙◌}
use Rattle.std.specs.Char.Utf16.{utf16_lossy_chars}
use Rattle.std.specs.Str.{encode_utf8_all}
use Rattle.std.proofs.lemmas.Result.{IfOk-weaker}
use Rattle.dj_file_rules.proofs.Naming.{broken_spells_none}
use Rattle.dj_shape.proofs.paths.class_path.Goals as goal

pub unreachable-requires : goal.unreachable-requires
unreachable-requires c =
    let place = c.in-Err-NotModifiedUtf8.field-0-0 in
    broken_spells_none c.args.name.now place c.requires.0 (c.units_of.ensures.broken place (cc)) c.requires.1

pub returns-in-Ok-units_of : goal.returns-in-Ok-units_of
returns-in-Ok-units_of c =
    IfOk-weaker c.units_path.result _ _ (λ path is. record {
      units = c.in-Ok-units_of.units;
      spelled = c.in-Ok-units_of.ensures.ok;
      is = is ∙ ap (λ (units : List ℕ). encode_utf8_all (utf16_lossy_chars units) ++ codes ".class") c.as_slice.ensures;
    }) c.units_path.ensures
