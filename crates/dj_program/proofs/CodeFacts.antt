-- The code of a method by its bytes: which number is max_stack and which max_locals (JVMS 4.7.3).
use Rattle.std.proofs.Common.{◌≡◌, ℕ, zero, suc, List, [], ◌∷◌, ◌++◌, refl, ap, subst, ◌∙◌, arith, get_or, ◌<◌, length, Some, codes}
use Rattle.dj_cursor.specs.trusted.Spelling.{u2, u4, table_bytes}
use Rattle.dj_ops.specs.declared.instruction.Instr.TheVariants as instrs
use Rattle.dj_ops.specs.trusted.Forms.{form_of}
use Rattle.dj_ops.specs.Mnemonics.{return}
use Rattle.dj_pool.specs.trusted.Pool.{Constant, Utf8}
use Rattle.dj_class.specs.trusted.ClassFile.{MemberInfo, attribute_bytes}
use Rattle.dj_class.specs.trusted.Code.{CodeInfo, code_info_bytes, row_bytes}
use Rattle.dj_program.specs.trusted.Codes.{CodeParts, IsMethodCode}

abbrev pub names : List Constant
names = Utf8 (codes "Code") ∷ Utf8 (codes "(I)V") ∷ []

-- max_stack 2, max_locals 1, one byte of code, no rows and no attributes
abbrev body : List ℕ
body = 0 ∷ 2 ∷ 0 ∷ 1 ∷ 0 ∷ 0 ∷ 0 ∷ 1 ∷ 177 ∷ 0 ∷ 0 ∷ 0 ∷ 0 ∷ []

-- a method of these flags whose code is one `return`
abbrev pub returning : ℕ → MemberInfo
returning flags = record { flags = flags; name = 1; desc = 2; attributes = record { name = 1; body = body } ∷ [] }

abbrev pub returns_with : ℕ → ℕ → CodeParts
returns_with stack locals = record { max_stack = stack; max_locals = locals; labelled = record { code = instrs.Simple return ∷ []; ranges = [] }; frames = Some [] }

abbrev info : CodeInfo
info = record { max_stack = 2; max_locals = 1; code = 177 ∷ []; table = []; attributes = [] }

-- max_stack comes first
pub stack_first : (flags : ℕ) → IsMethodCode names (returning flags) (returns_with 2 1)
unfolding form_of
stack_first flags = record {
  info = info;
  own = record {
    body = body;
    own = (0, omega arith, refl);
    is = record {
      spelled = refl;
      valid = record {
        max_stack = omega arith;
        max_locals = omega arith;
        some_code = omega arith;
        few_code = omega arith;
        row_count = omega arith;
        rows = tt;
        attribute_count = omega arith;
        attributes = tt;
      };
    };
  };
  stack = refl;
  locals = refl;
  labels = record {
    starts = 0 ∷ [];
    cut = record { first = refl; each = (record { later = omega arith; within = omega arith; spelled = record { padding = []; padded = refl; offsets = tt; are = refl }; proper = refl }, tt) };
    targets = (tt, tt);
    rows = refl;
    ranges = tt;
  };
  frames = refl;
}

-- the low byte of a number of two bytes, which is 1
low : (n : ℕ) (later : List ℕ) → 1 ≡ n → get_or (u2 n ++ later) 1 0 ≡ 1
low n later e = subst (λ (m : ℕ). get_or (u2 m ++ later) 1 0 ≡ 1) e refl

abbrev after_stack : CodeInfo → List ℕ
after_stack c = u2 c.max_locals ++ u4 (length c.code) ++ c.code ++ table_bytes row_bytes c.table ++ table_bytes attribute_bytes c.attributes

only : (x : ℕ) (bytes : List ℕ) → x < 1 → get_or (body ∷ []) x bytes ≡ bytes → body ≡ bytes
only zero bytes few e = e
only (suc x) bytes few e = absurd (omega (arith, few))

locals_not_first : IsMethodCode names (returning 8) (returns_with 1 2) → ⊥
locals_not_first is =
    let e : body ≡ code_info_bytes is.info = only is.own.own.0 is.own.body is.own.own.1 is.own.own.2 ∙ is.own.is.spelled in
    let two : 2 ≡ get_or (code_info_bytes is.info) 1 0 = ap (λ (xs : List ℕ). get_or xs 1 0) e in
    let one : get_or (code_info_bytes is.info) 1 0 ≡ 1 = low is.info.max_stack (after_stack is.info) is.stack in
    omega (arith, two, one)
