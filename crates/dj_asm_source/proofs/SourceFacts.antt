-- The order of a source's lines, and what labels stand for, at plain values.
use Rattle.std.proofs.Common.{◌≡◌, pos, List, [], ◌∷◌, ◌++◌, map, Some, None, codes, refl, subst, arith}
use Rattle.dj_asm_source.specs.trusted.Lines.{Line, Class, Version, Super, Implements, Field, Abstract, Method, Stack, Locals, Beside, Framed, Does, End, Same, Plain, Jump, Labelled, Catch}
use Rattle.dj_asm_source.specs.trusted.Sources.{Source, BodyPart, Mark, Step, FrameStep, Bodiless, Coded, lines_of, method_lines}
use Rattle.dj_asm_source.specs.trusted.Labels.{AtInstruction, Range, IsLabelAt, IsMet, instruction_count, uses_of}

-- ---- lines in their order

-- a label and a row between a frame and its instruction
abbrev body : List BodyPart
body = Mark (Labelled (codes "a")) ∷ FrameStep Same (Labelled (codes "b") ∷ Catch None (codes "a") (codes "c") (codes "b") ∷ []) (Plain 0) ∷ Step (Jump 167 (codes "a")) ∷ Mark (Labelled (codes "c")) ∷ []

abbrev full : Source
full = record {
  flags = 33;
  name = codes "A";
  version = Some (pos 51, pos 3);
  super = codes "B";
  interfaces = codes "I" ∷ [];
  fields = record { flags = 1; name = codes "f"; desc = codes "I"; value = None } ∷ [];
  methods = Bodiless 1 (codes "n") (codes "()V") ∷ Coded 9 (codes "m") (codes "()V") (pos 2) (pos 1) body ∷ [];
}

full_lines : lines_of full
    ≡ Class 33 (codes "A") ∷ Version (pos 51) (pos 3) ∷ Super (codes "B") ∷ Implements (codes "I") ∷ Field 1 (codes "f") (codes "I") None
    ∷ Abstract 1 (codes "n") (codes "()V") ∷ Method 9 (codes "m") (codes "()V") ∷ Stack (pos 2) ∷ Locals (pos 1)
    ∷ Beside (Labelled (codes "a")) ∷ Framed Same ∷ Beside (Labelled (codes "b")) ∷ Beside (Catch None (codes "a") (codes "c") (codes "b"))
    ∷ Does (Plain 0) ∷ Does (Jump 167 (codes "a")) ∷ Beside (Labelled (codes "c")) ∷ End ∷ []
full_lines = refl

-- ---- labels

abbrev lines : List Line
lines = method_lines (Coded 9 (codes "m") (codes "()V") (pos 2) (pos 1) body)

two_instructions : instruction_count lines ≡ 2
two_instructions = refl

uses : map uses_of lines
    ≡ [] ∷ [] ∷ [] ∷ [] ∷ [] ∷ [] ∷ (Range (codes "a") (codes "c") ∷ AtInstruction (codes "b") ∷ []) ∷ [] ∷ (AtInstruction (codes "a") ∷ []) ∷ [] ∷ [] ∷ []
uses = refl

-- the label of the unit 1 stands before the one instruction, and that of the unit 3 at the code's end
abbrev short : List Line
short = Beside (Labelled (1 ∷ [])) ∷ Does (Plain 0) ∷ Beside (Labelled (3 ∷ [])) ∷ []

label_a : IsLabelAt short (1 ∷ []) 0
label_a = record { prefix = []; rest = Does (Plain 0) ∷ Beside (Labelled (3 ∷ [])) ∷ []; parts = refl; first = tt; number_is = refl }

label_c : IsLabelAt short (3 ∷ []) 1
label_c = record { prefix = Beside (Labelled (1 ∷ [])) ∷ Does (Plain 0) ∷ []; rest = []; parts = refl; first = (λ e. absurd cc, (λ e. absurd cc, tt)); number_is = refl }

-- from the one to the other is a range, and the first is an instruction
range_a_c : IsMet short (Range (1 ∷ []) (3 ∷ []))
range_a_c = record { first = 0; end = 1; from_is = label_a; to_is = label_c; some = omega arith }

target_a : IsMet short (AtInstruction (1 ∷ []))
target_a = record { number = 0; defined = label_a; instruction = omega arith }

-- no line defines a third label
no_label_b : (prefix rest : List Line) → short ≡ prefix ++ Beside (Labelled (2 ∷ [])) ∷ rest → ⊥
no_label_b [] rest e = absurd cc
no_label_b (x ∷ []) rest e = absurd cc
no_label_b (x ∷ y ∷ []) rest e = absurd cc
no_label_b (x ∷ y ∷ z ∷ []) rest e = absurd cc
no_label_b (x ∷ y ∷ z ∷ w ∷ more) rest e = absurd cc

unknown_b : IsMet short (AtInstruction (2 ∷ [])) → ⊥
unknown_b met = no_label_b met.defined.prefix met.defined.rest met.defined.parts

-- the second label is the number 1, where no instruction stands
number_of_c : (prefix rest : List Line) → short ≡ prefix ++ Beside (Labelled (3 ∷ [])) ∷ rest → instruction_count prefix ≡ 1
number_of_c [] rest e = absurd cc
number_of_c (x ∷ []) rest e = absurd cc
number_of_c (x ∷ y ∷ []) rest e =
    let first : Beside (Labelled (1 ∷ [])) ≡ x = cc in
    let second : Does (Plain 0) ≡ y = cc in
    subst (λ a. instruction_count (a ∷ y ∷ []) ≡ 1) first (subst (λ b. instruction_count (Beside (Labelled (1 ∷ [])) ∷ b ∷ []) ≡ 1) second refl)
number_of_c (x ∷ y ∷ z ∷ []) rest e = absurd cc
number_of_c (x ∷ y ∷ z ∷ w ∷ more) rest e = absurd cc

end_c : IsMet short (AtInstruction (3 ∷ [])) → ⊥
end_c met =
    let is = met.defined.number_is in
    let one = number_of_c met.defined.prefix met.defined.rest met.defined.parts in
    let below = met.instruction in
    omega (arith, is, one, below)
