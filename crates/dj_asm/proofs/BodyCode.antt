-- The code of a body: it has instructions, is well formed where nothing is improper, and has a layout where nothing is too far or too long.
use Rattle.std.proofs.Common.{◌≡◌, ℕ, zero, suc, ◌+◌, ◌<◌, ◌⊎◌, inl, inr, ℤ, pos, unsigned_abs, Bool, true, false, List, [], ◌∷◌, ◌++◌, length, map, refl, sym, ap, ◌∙◌, subst, arith, append_assoc}
use Rattle.std.specs.Prelude.{slice_get}
use Rattle.std.specs.List.{flat_map, AllByRecursion, AllZip}
use Rattle.std.proofs.lemmas.Bool.{eqb-true}
use Rattle.std.proofs.lemmas.Int.{ints}
use Rattle.std.proofs.lemmas.Option.{slice_get_within}
use Rattle.dj_names.specs.trusted.Descriptors.{slots_of}
use Rattle.dj_names.specs.declared.descriptor.Desc.TheVariants as descs
use Rattle.dj_ops.specs.declared.instruction.Instr.{Instr}
use Rattle.dj_ops.specs.declared.instruction.Instr.TheVariants as instrs
use Rattle.dj_ops.specs.trusted.Instructions.{IsProper}
use Rattle.dj_labels.specs.declared.labelled.Protected.{Protected}
use Rattle.dj_labels.specs.declared.labelled.Labelled.{Labelled}
use Rattle.dj_labels.specs.trusted.Labels.{IsNumber, HasNumbers, IsRange, address_of}
use Rattle.dj_labels.specs.Labels.{IsWellFormed}
use Rattle.dj_layout.specs.declared.errors.LayError.{LayError}
use Rattle.dj_layout.specs.declared.errors.LayError.TheVariants as lay_errors
use Rattle.dj_layout.specs.trusted.Places.{starts_from}
use Rattle.dj_layout.specs.trusted.Layouts.{placed}
use Rattle.dj_layout.specs.Faults.{Refuses}
use Rattle.dj_layout.specs.Laws.{HasLayout, HasFault}
use Rattle.dj_layout.proofs.Ends.{starts_length, end_within}
use Rattle.dj_layout.proofs.Passing.{placed_length}
use Rattle.dj_layout.proofs.Decided.{layout_or_fault_is}
use Rattle.dj_class.specs.trusted.Code.{CodeInfo}
use Rattle.dj_asm_source.specs.trusted.Lines.{Label, Operation, Plain, Push, Local, Increment, Load, LoadLong, Jump, Table, Lookup, Member, Dynamic, ClassOf, Array, Multi, Catch, Line, Method, Stack, Locals, Beside, Does, End, IsFieldUse, IsMethodUse, IsOperation, IsLine}
use Rattle.dj_asm_source.specs.trusted.Sources.{Source, BodyPart, body_lines}
use Rattle.dj_asm_source.specs.trusted.Labels.{instruction_count, AtInstruction, operation_uses, uses_of, AreMethodLines, IsMislabelled, label_number}
use Rattle.dj_asm_pool.specs.trusted.Entries.{Entry}
use Rattle.dj_asm_pool.specs.trusted.Needs.{member_entry, index_in}
use Rattle.dj_asm.specs.trusted.Codes.{Places, target_of, IsMemberInstr, is_interface_call, IsInstrOf, operation_in, AreInstrsOf, ranges_in, stack_map_of, frames_in, IsCodeOf}
use Rattle.dj_asm.specs.trusted.Files.{places_of}
use Rattle.dj_asm.specs.trusted.Large.{IsImproper, IsFarJump, IsEndOfLongCode}
use Rattle.dj_asm_pool.specs.trusted.Room.{NoLine}
use Rattle.dj_asm.proofs.Deciding.{stable, proper_or_not}
use Rattle.dj_asm.proofs.BodyLabels.{count_cons, count_append, coded_lines, same_places, same_in, IsNumbered, uses_numbered}

-- ---- each operation is an instruction

member_instr : (interface : Bool) (op index : ℕ) (class name desc : List ℕ) (marked : Bool) → is_interface_call op ≡ interface → IsFieldUse op name desc marked ⊎ IsMethodUse op name desc marked → (i : Instr) × IsMemberInstr interface op index desc i
member_instr false op index class name desc marked e used = (instrs.Member op index, refl)
member_instr true op index class name desc marked e (inl used) =
    let is = eqb-true op 185 e in
    let le = used.to in
    absurd (omega (arith, is, le))
member_instr true op index class name desc marked e (inr used) =
    let d = used.described in
    (instrs.Interface index (slots_of (descs.Method d.0 d.1) + 1), record { described = descs.Method d.0 d.1; describes = d.2; instruction = refl })

pub instr_of : (places : Places) (o : Operation) → IsOperation o → (i : Instr) × IsInstrOf places o i
instr_of places (Plain op) is = (instrs.Simple op, refl)
instr_of places (Push op n) is = (instrs.Push op n, refl)
instr_of places (Local wide op slot) is = (instrs.Local op (unsigned_abs slot) wide, refl)
instr_of places (Increment wide slot by) is = (instrs.Inc (unsigned_abs slot) by wide, refl)
instr_of places (Load op literal) is = (_, refl)
instr_of places (LoadLong n) is = (_, refl)
instr_of places (Jump op label) is = (_, refl)
instr_of places (Table low labels default) is = (_, refl)
instr_of places (Lookup pairs default) is = (_, refl)
instr_of places (Member op class name desc marked) is =
    member_instr (is_interface_call op) op (places.index (member_entry op class name desc marked)) class name desc marked refl is.1
instr_of places (Dynamic n name desc) is = (_, refl)
instr_of places (ClassOf op class) is = (_, refl)
instr_of places (Array base) is = (instrs.Array base, refl)
instr_of places (Multi desc dims) is = (_, refl)

-- a body has instructions
pub instrs_of : (places : Places) (body : List Line) → AllByRecursion IsLine body → (code : List Instr) × AreInstrsOf places body code
instrs_of places [] is = ([], tt)
instrs_of places (Does operation ∷ body) is =
    let first = instr_of places operation is.0 in
    let more = instrs_of places body is.1 in
    (first.0 ∷ more.0, (first.1, more.1))
instrs_of places (line ∷ body) is = instrs_of places body is.1

-- ---- each instruction is that of a line

shift : (prefix : List Line) (line : Line) (rest : List Line) → prefix ++ line ∷ rest ≡ (prefix ++ line ∷ []) ++ rest
shift prefix line rest = sym (append_assoc prefix (line ∷ []) rest)

-- one step further into a body
on : (body prefix : List Line) (line : Line) (rest : List Line) → body ≡ prefix ++ line ∷ rest → body ≡ (prefix ++ line ∷ []) ++ rest
on body prefix line rest e = e ∙ shift prefix line rest

each_from_line : (places : Places) (P : Instr → Type 0) (body prefix rest : List Line) (code : List Instr)
    → ((before : List Line) (o : Operation) (after : List Line) (i : Instr) → body ≡ before ++ Does o ∷ after → IsInstrOf places o i → P i)
    → body ≡ prefix ++ rest → AreInstrsOf places rest code → AllByRecursion P code
each_from_line places P body prefix [] [] f e are = tt
each_from_line places P body prefix [] (i ∷ code) f e are = absurd are
each_from_line places P body prefix (Does o ∷ rest) [] f e are = absurd are
each_from_line places P body prefix (Does o ∷ rest) (i ∷ code) f e are =
    (f prefix o rest i e are.0, each_from_line places P body (prefix ++ Does o ∷ []) rest code f (on body prefix (Does o) rest e) are.1)
each_from_line places P body prefix (line ∷ rest) code f e are =
    each_from_line places P body (prefix ++ line ∷ []) rest code f (on body prefix line rest e) are

pub each_instr : (places : Places) (P : Instr → Type 0) (body : List Line) (code : List Instr) → AreInstrsOf places body code
    → ((before : List Line) (o : Operation) (after : List Line) (i : Instr) → body ≡ before ++ Does o ∷ after → IsInstrOf places o i → P i) → AllByRecursion P code
each_instr places P body code are f = each_from_line places P body [] body code f refl are

-- as many instructions as lines of such
pub code_count : (places : Places) (body : List Line) (code : List Instr) → AreInstrsOf places body code → length code ≡ instruction_count body
code_count places [] [] are = refl
code_count places [] (i ∷ code) are = absurd are
code_count places (Does o ∷ body) [] are = absurd are
code_count places (Does o ∷ body) (i ∷ code) are = let more = code_count places body code are.1 in let c = count_cons (Does o) body in omega (arith, more, c)
code_count places (line ∷ body) code are = let more = code_count places body code are in let c = count_cons line body in omega (arith, more, c)

-- the line of the instruction of a number
pub record IsLineOf (body : List Line) (number : ℕ) : Type 0 where
  pub prefix : List Line
  pub operation : Operation
  pub rest : List Line
  pub parts : body ≡ prefix ++ Does operation ∷ rest
  pub count : instruction_count prefix ≡ number

one_more : (prefix : List Line) (line : Line) (n : ℕ) → instruction_count (line ∷ []) ≡ n → instruction_count (prefix ++ line ∷ []) ≡ instruction_count prefix + n
one_more prefix line n e = count_append prefix (line ∷ []) ∙ ap (λ (k : ℕ). instruction_count prefix + k) e

line_from : (places : Places) (body prefix rest : List Line) (code : List Instr) (k : ℕ) → body ≡ prefix ++ rest → AreInstrsOf places rest code → k < length code → IsLineOf body (instruction_count prefix + k)
line_from places body prefix [] [] k e are lt = absurd (omega (arith, lt))
line_from places body prefix [] (i ∷ code) k e are lt = absurd are
line_from places body prefix (Does o ∷ rest) [] k e are lt = absurd are
line_from places body prefix (Does o ∷ rest) (i ∷ code) zero e are lt = record { prefix = prefix; operation = o; rest = rest; parts = e; count = omega arith }
line_from places body prefix (Does o ∷ rest) (i ∷ code) (suc k) e are lt =
    let c = one_more prefix (Does o) 1 refl in
    subst (IsLineOf body) (omega (arith, c)) (line_from places body (prefix ++ Does o ∷ []) rest code k (on body prefix (Does o) rest e) are.1 (omega (arith, lt)))
line_from places body prefix (line ∷ rest) code k e are lt =
    let c = one_more prefix line 0 refl in
    subst (IsLineOf body) (omega (arith, c)) (line_from places body (prefix ++ line ∷ []) rest code k (on body prefix line rest e) are lt)

pub line_of : (places : Places) (body : List Line) (code : List Instr) (k : ℕ) → AreInstrsOf places body code → k < length code → IsLineOf body k
line_of places body code k are lt = subst (IsLineOf body) (omega arith) (line_from places body [] body code k refl are lt)

-- ---- targets and ranges

number_within : (count n : ℕ) → n < count → IsNumber count (pos n)
number_within count n lt = (omega (arith, ints), omega (arith, ints, lt))

module _ (index : Entry → ℕ) (body : List Line) where
  abbrev places : Places
  places = places_of index body

  abbrev count : ℕ
  count = instruction_count body

  labels_within : (labels : List Label) → AllByRecursion (IsNumbered body) (map AtInstruction labels) → AllByRecursion (IsNumber count) (map (target_of places) labels)
  labels_within [] h = tt
  labels_within (label ∷ labels) h = (number_within count (label_number body label) h.0, labels_within labels h.1)

  pairs_within : (pairs : List (ℤ × Label)) → AllByRecursion (IsNumbered body) (map (λ pair. AtInstruction pair.1) pairs)
      → AllByRecursion (IsNumber count) (map (λ (pair : ℤ × ℤ). pair.1) (map (λ (pair : ℤ × Label). (pair.0, target_of places pair.1)) pairs))
  pairs_within [] h = tt
  pairs_within (pair ∷ pairs) h = (number_within count (label_number body pair.1) h.0, pairs_within pairs h.1)

  member_within : (interface : Bool) (op k : ℕ) (desc : List ℕ) (i : Instr) → IsMemberInstr interface op k desc i → HasNumbers count i
  member_within true op k desc i is = subst (HasNumbers count) (sym is.instruction) tt
  member_within false op k desc i is = subst (HasNumbers count) (sym is) tt

  pub targets_within : (o : Operation) (i : Instr) → IsInstrOf places o i → AllByRecursion (IsNumbered body) (operation_uses o) → HasNumbers count i
  targets_within (Jump op label) i is h = subst (HasNumbers count) (sym is) (number_within count (label_number body label) h.0, tt)
  targets_within (Table low labels default) i is h = subst (HasNumbers count) (sym is) (number_within count (label_number body default) h.0, labels_within labels h.1)
  targets_within (Lookup pairs default) i is h = subst (HasNumbers count) (sym is) (number_within count (label_number body default) h.0, pairs_within pairs h.1)
  targets_within (Member op class name desc marked) i is h = member_within (is_interface_call op) op (places.index (member_entry op class name desc marked)) desc i is
  targets_within o i is h = subst (HasNumbers count) (sym is) tt

  pub ranges_within : (prefix rest : List Line) → body ≡ prefix ++ rest → ((before : List Line) (line : Line) (after : List Line) → body ≡ before ++ line ∷ after → AllByRecursion (IsNumbered body) (uses_of line))
      → AllByRecursion (IsRange count) (flat_map (ranges_in places) rest)
  ranges_within prefix [] e met = tt
  ranges_within prefix (Beside (Catch class from to handler) ∷ rest) e met =
      let m = met prefix (Beside (Catch class from to handler)) rest e in
      (record { some = m.0.0; within = m.0.1; handled = m.1.0 }, ranges_within (prefix ++ Beside (Catch class from to handler) ∷ []) rest (on body prefix (Beside (Catch class from to handler)) rest e) met)
  ranges_within prefix (line ∷ rest) e met = ranges_within (prefix ++ line ∷ []) rest (on body prefix line rest e) met

-- ---- a method of a source

-- the instructions and ranges of lines
abbrev pub labelled_of : Places → List Line → List Instr → Labelled
labelled_of places body code = record { code = code; ranges = flat_map (ranges_in places) body }

module _ (s : Source) (before : ℕ) (body : List Line) (at : AreMethodLines s before body) (labels : NoLine (IsMislabelled s)) (proper : NoLine (IsImproper s)) where
  abbrev here : Places
  here = places_of (index_in s) body

  -- its code is well formed
  pub well_formed : (code : List Instr) → AreInstrsOf here body code → IsWellFormed (labelled_of here body code)
  well_formed code are =
      let met = λ (prefix : List Line) (line : Line) (rest : List Line) (e : body ≡ prefix ++ line ∷ rest). uses_numbered s before body prefix line rest labels at e in
      let size : instruction_count body ≡ length code = sym (code_count here body code are) in
      record {
        proper = each_instr here IsProper body code are (λ prefix o rest i e is.
            stable (proper_or_not i) (λ improper. proper (before + length prefix) (record {
              body = body;
              prefix = prefix;
              operation = o;
              at = record { before = before; in_method = at; rest = rest; parts = e; place_is = refl };
              instr = i;
              is_instr = is;
              improper = improper;
            })));
        targets = subst (λ (n : ℕ). AllByRecursion (HasNumbers n) code) size
            (each_instr here (HasNumbers (instruction_count body)) body code are (λ prefix o rest i e is. targets_within (index_in s) body o i is (met prefix (Does o) rest e)));
        ranges = subst (λ (n : ℕ). AllByRecursion (IsRange n) (flat_map (ranges_in here) body)) size (ranges_within (index_in s) body [] body refl met);
      }

  -- and it has a layout, where no jump is far and the code isn't long
  pub has_layout : (code : List Instr) → AreInstrsOf here body code → (prefix : List Line) → body ≡ prefix ++ End ∷ [] → NoLine (IsFarJump s) → NoLine (IsEndOfLongCode s) → HasLayout (labelled_of here body code)
  has_layout code are prefix ends near short = decide (layout_or_fault_is (labelled_of here body code) (well_formed code are)) where
    far : (number : ℕ) → Refuses (labelled_of here body code) (lay_errors.Far number) → ⊥
    far number fault =
        let jump = fault.first in
        let many = placed_length (address_of (starts_from 0 code)) (starts_from 0 code) code (starts_length 0 code) in
        let within = slice_get_within (placed (starts_from 0 code) code) number fault.jump jump.found in
        let line = line_of here body code number are (omega (arith, many, within)) in
        near (before + length line.prefix) (record {
          body = body;
          prefix = line.prefix;
          operation = line.operation;
          at = record { before = before; in_method = at; rest = line.rest; parts = line.parts; place_is = refl };
          instrs = code;
          are_instrs = are;
          jump = fault.jump;
          number = ap (λ (n : ℕ). slice_get (placed (starts_from 0 code) code) n) line.count ∙ jump.found;
          far = jump.lacks;
        })

    long : (number : ℕ) → Refuses (labelled_of here body code) (lay_errors.TooLong number) → ⊥
    long number fault =
        let past = fault.past in
        let all = end_within 0 (number + 1) code in
        short (before + length prefix) (record {
          body = body;
          prefix = prefix;
          at = record { before = before; in_method = at; rest = []; parts = ends; place_is = refl };
          instrs = code;
          are_instrs = are;
          long = omega (arith, past, all);
        })

    no_fault : (e : LayError) → Refuses (labelled_of here body code) e → ⊥
    no_fault (lay_errors.TooLong number) fault = long number fault
    no_fault (lay_errors.Far number) fault = far number fault
    no_fault lay_errors.Memory fault = fault

    decide : HasLayout (labelled_of here body code) ⊎ HasFault (labelled_of here body code) → HasLayout (labelled_of here body code)
    decide (inl layout) = layout
    decide (inr fault) = absurd (no_fault fault.error fault.cause)

-- ---- the Code attribute

pub record HasCode (places : Places) (stack locals : ℤ) (body : List Line) : Type 0 where
  pub code : CodeInfo
  pub is : IsCodeOf places stack locals body code

code_of : (places : Places) (stack locals : ℤ) (body : List Line) (code : List Instr) → AreInstrsOf places body code → HasLayout (labelled_of places body code) → HasCode places stack locals body
code_of places stack locals body code are layout = record {
  code = record {
    max_stack = unsigned_abs stack;
    max_locals = unsigned_abs locals;
    code = layout.laid.code;
    table = layout.laid.table;
    attributes = stack_map_of places layout.laid.starts (frames_in places 0 body);
  };
  is = record { labelled = labelled_of places body code; instructions = are; ranges = refl; laid = layout.laid; laid_out = layout.is; code_is = refl };
}

-- a method of a source in which its lines fit has its code
pub has_code : (s : Source) (before : ℕ) (flags : ℕ) (name desc : List ℕ) (stack locals : ℤ) (parts : List BodyPart) → AreMethodLines s before (coded_lines flags name desc stack locals parts)
    → AllByRecursion IsLine (coded_lines flags name desc stack locals parts) → NoLine (IsMislabelled s) → NoLine (IsImproper s) → NoLine (IsFarJump s) → NoLine (IsEndOfLongCode s)
    → HasCode (places_of (index_in s) (body_lines parts)) stack locals (body_lines parts)
has_code s before flags name desc stack locals parts at is labels proper near short =
    let whole = coded_lines flags name desc stack locals parts in
    let p = places_of (index_in s) whole in
    let q = places_of (index_in s) (body_lines parts) in
    let same : p ≡ q = same_places (index_in s) flags name desc stack locals parts in
    let code = instrs_of p whole is in
    let layout = has_layout s before whole at labels proper code.0 code.1 (Method flags name desc ∷ (Stack stack ∷ (Locals locals ∷ body_lines parts))) refl near short in
    let are : AreInstrsOf p (body_lines parts) code.0 =
    subst (λ (os : List Operation). AllZip (IsInstrOf p) os code.0) (same_in operation_in flags name desc stack locals parts refl refl refl refl) code.1 in
    let laid : HasLayout (labelled_of p (body_lines parts) code.0) =
    subst (λ (rs : List Protected). HasLayout (record { code = code.0; ranges = rs })) (same_in (ranges_in p) flags name desc stack locals parts refl refl refl refl) layout in
    code_of q stack locals (body_lines parts) code.0 (subst (λ r. AreInstrsOf r (body_lines parts) code.0) same are) (subst (λ r. HasLayout (labelled_of r (body_lines parts) code.0)) same laid)
