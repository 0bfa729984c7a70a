-- A body with a label, a jump, a range and two frames, at plain values.
use Rattle.std.proofs.Common.{pos, List, [], ◌∷◌, Some, codes, refl, arith, inl}
use Rattle.std.proofs.Math.Facts.{sfits_lit}
use Rattle.std.proofs.lemmas.Int.{ints}
use Rattle.dj_ops.specs.declared.instruction.Instr.TheVariants as instrs
use Rattle.dj_ops.specs.trusted.Forms.{form_of}
use Rattle.dj_ops.specs.Mnemonics.{nop, goto, return}
use Rattle.dj_labels.specs.declared.labelled.Labelled.{Labelled}
use Rattle.dj_layout.specs.declared.laid.Laid.{Laid}
use Rattle.dj_layout.specs.trusted.Layouts.{IsLaidOut}
use Rattle.dj_frames.specs.trusted.Written.{frames_bytes}
use Rattle.dj_asm_source.specs.trusted.Lines.{Label, Same, Plain, Jump, Labelled as Marked, Catch, Line, Beside, Framed, Does}
use Rattle.dj_asm_source.specs.trusted.Labels.{label_number}
use Rattle.dj_asm_pool.specs.trusted.Entries.{Class, index_of}
use Rattle.dj_asm_pool.specs.trusted.Needs.{stack_map_name}
use Rattle.dj_asm.specs.trusted.Codes.{frames_in, IsCodeOf}
use Rattle.dj_asm.specs.trusted.Files.{places_of}

abbrev a : Label
a = codes "a"

abbrev e : Label
e = codes "e"

-- nop, and at `a` a jump to itself in a range up to the end `e`, with a frame, and return, with another
abbrev body : List Line
body =
    Does (Plain nop) ∷ Beside (Marked a) ∷ Framed Same ∷ Does (Jump goto a) ∷ Framed Same ∷ Does (Plain return) ∷ Beside (Marked e)
    ∷ Beside (Catch (Some (codes "T")) a e a) ∷ []

abbrev labelled : Labelled
labelled = record {
  code = instrs.Simple nop ∷ instrs.Branch goto (pos 1) ∷ instrs.Simple return ∷ [];
  ranges = record { start = 1; end = 3; handler = 1; catch_type = 2 } ∷ [];
}

abbrev laid : Laid
laid = record { code = nop ∷ goto ∷ 0 ∷ 0 ∷ return ∷ []; starts = 0 ∷ 1 ∷ 4 ∷ []; table = record { start = 1; end = 5; handler = 1; catch_type = 2 } ∷ [] }

laid_out : IsLaidOut labelled laid
unfolding form_of
laid_out = record {
  starts = refl;
  code = refl;
  short = omega arith;
  table = refl;
  labels = record {
    starts = 0 ∷ 1 ∷ 4 ∷ [];
    cut = record {
      first = refl;
      each = (
        record { later = omega arith; within = omega arith; spelled = record { padding = []; padded = refl; offsets = tt; are = refl }; proper = refl },
        (
          record { later = omega arith; within = omega arith; spelled = record { padding = []; padded = refl; offsets = sfits_lit tt; are = refl }; proper = inl refl },
          (record { later = omega arith; within = omega arith; spelled = record { padding = []; padded = refl; offsets = tt; are = refl }; proper = refl }, tt),
        ),
      );
    };
    targets = (tt, (((omega (arith, ints), omega (arith, ints)), tt), (tt, tt)));
    rows = refl;
    ranges = (record { some = omega arith; within = omega arith; handled = omega arith }, tt);
  };
}

-- the stack map has the addresses 1 and 4
is_code : IsCodeOf (places_of (index_of (stack_map_name ∷ Class (codes "T") ∷ [])) body) (pos 2) (pos 3) body
    (record {
      max_stack = 2;
      max_locals = 3;
      code = nop ∷ goto ∷ 0 ∷ 0 ∷ return ∷ [];
      table = record { start = 1; end = 5; handler = 1; catch_type = 2 } ∷ [];
      attributes = record { name = 1; body = 0 ∷ 2 ∷ 1 ∷ 2 ∷ [] } ∷ [];
    })
unfolding frames_in label_number index_of frames_bytes
is_code = record { labelled = labelled; instructions = (refl, (refl, (refl, tt))); ranges = refl; laid = laid; laid_out = laid_out; code_is = refl }
