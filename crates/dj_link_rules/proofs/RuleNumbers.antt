-- What the rules 17 and 18 say of an instruction or a handler's type, as a number: of plain values it can be computed.
use Rattle.std.proofs.Common.{◌≡◌, ◌≢◌, ℕ, zero, suc, Bool, true, false, List, [], ◌∷◌, map, Option, Some, None, Bor, refl, sym, ap, ◌∙◌, inl, inr, Decides, slice_get, option_and_then, unwrap_or, IsSomeAnd}
use Rattle.std.specs.Option.{option_map}
use Rattle.std.proofs.lemmas.Option.{slice_get-map}
use Rattle.dj_names.specs.trusted.Types.{Name}
use Rattle.dj_ops.specs.declared.instruction.Instr.{Instr}
use Rattle.dj_pool.specs.trusted.Pool.{Constant, constant_at}
use Rattle.dj_model.specs.trusted.Program.{Program, Class}
use Rattle.dj_class_table.specs.Tables.{class_number}
use Rattle.dj_link_rules.specs.trusted.Foreign.{IsForeign, IsForeignConstant}
use Rattle.dj_link_rules.specs.trusted.Unlinked.{IsUnlinked, IsUnlinkedCatch}
use Rattle.dj_link_rules.specs.trusted.Lines.{IsFirstOf}
use Rattle.dj_link_rules.specs.Judged.{judged, kept_at}
use Rattle.dj_link_rules.specs.declared.named.NamedConstant.{NamedConstant}
use Rattle.dj_link_rules.specs.declared.known.Known.{Known}
use Rattle.dj_link_rules.specs.Known.{is_unmakeable, is_foreign, is_unlinked, is_foreign_catch, is_unlinked_catch, IsKnown}
use Rattle.dj_link_rules.proofs.AboveLaws.{above_is}
use Rattle.dj_link_rules.proofs.Judging.{foreign_instr, unlinked_instr, foreign_catch, unlinked_catch}

abbrev bor : {X : Type 0} → X → Bor X
bor x = record { ref_ptr = (0, 0); now = x }

abbrev kept_of : Program → List Constant → Constant → Option NamedConstant
kept_of program pool k = Some (judged program pool k)

-- what is known of a class of this name with this pool
abbrev pub known_of : Program → Name → List Constant → Known
known_of program own pool = record {
  table = bor program;
  unmakeable = bor (map is_unmakeable program);
  own = record { linker = bor (record { program = program; prefix = [] }); number = class_number program own };
  kept = bor (None ∷ map (kept_of program pool) pool);
}

some_kept : (program : Program) (pool : List Constant) (k : Option Constant) → option_and_then (λ (x : Option NamedConstant). x) (option_map (kept_of program pool) k) ≡ option_map (judged program pool) k
some_kept program pool None = refl
some_kept program pool (Some k) = refl

constants_known : (program : Program) (pool : List Constant) (index : ℕ) → kept_at (None ∷ map (kept_of program pool) pool) index ≡ option_map (judged program pool) (constant_at pool index)
constants_known program pool zero = refl
constants_known program pool (suc index) =
    ap (option_and_then (λ (x : Option NamedConstant). x)) (slice_get-map (kept_of program pool) pool index) ∙ some_kept program pool (slice_get pool index)

pub is_known : (program : Program) (own : Name) (pool : List Constant) → IsKnown own pool (known_of program own pool)
is_known program own pool = record {
  constants = constants_known program pool;
  above = above_is program own (class_number program own) refl;
  unmakeable = slice_get-map is_unmakeable program;
}

-- ---- a rule's number, or 0

abbrev pub rule_of : Bool → Bool → ℕ
rule_of true unlinked = 17
rule_of false true = 18
rule_of false false = 0

reported_rule : (f u : Bool) (F U : Type 0) (rule : ℕ) → Decides f F → Decides u U → rule_of f u ≡ rule → rule ≢ 0 → IsFirstOf F U rule
reported_rule true u F U rule df du e some = inl (df.0 refl, sym e)
reported_rule false true F U rule df du e some = inr ((λ is. let none = df.1 is in absurd cc), du.0 refl, sym e)
reported_rule false false F U rule df du e some = absurd (some (sym e))

rule_reported : (f u : Bool) (F U : Type 0) (rule : ℕ) → Decides f F → Decides u U → IsFirstOf F U rule → rule_of f u ≡ rule
rule_reported true u F U rule df du (inl is) = sym is.1
rule_reported true u F U rule df du (inr is) = absurd (is.0 (df.0 refl))
rule_reported false u F U rule df du (inl is) = (let e = df.1 is.0 in absurd cc)
rule_reported false true F U rule df du (inr is) = sym is.2
rule_reported false false F U rule df du (inr is) = (let e = du.1 is.1 in absurd cc)

abbrev pub instr_rule : Program → Name → List Constant → Instr → ℕ
instr_rule program own pool instr = rule_of (is_foreign (known_of program own pool) instr) (is_unlinked (known_of program own pool) instr)

-- an instruction violates this one of the two rules, and no other
pub instr_reported : (program : Program) (own : Name) (pool : List Constant) (instr : Instr) (rule : ℕ) → instr_rule program own pool instr ≡ rule → rule ≢ 0 → IsFirstOf (IsForeign program pool instr) (IsUnlinked program own pool instr) rule
instr_reported program own pool instr rule =
    let is = is_known program own pool in
    reported_rule _ _ _ _ rule (foreign_instr own pool (known_of program own pool) instr is) (unlinked_instr own pool (known_of program own pool) instr is)

pub reported_instr : (program : Program) (own : Name) (pool : List Constant) (instr : Instr) (rule : ℕ) → IsFirstOf (IsForeign program pool instr) (IsUnlinked program own pool instr) rule → instr_rule program own pool instr ≡ rule
reported_instr program own pool instr rule =
    let is = is_known program own pool in
    rule_reported _ _ _ _ rule (foreign_instr own pool (known_of program own pool) instr is) (unlinked_instr own pool (known_of program own pool) instr is)

abbrev pub catch_rule : Program → List Constant → ℕ → ℕ
catch_rule program pool index = rule_of (is_foreign_catch (known_of program [] pool) index) (is_unlinked_catch (known_of program [] pool) index)

-- the same for a handler's type
pub catch_reported : (program : Program) (pool : List Constant) (index rule : ℕ) → catch_rule program pool index ≡ rule → rule ≢ 0 → IsFirstOf (IsSomeAnd (constant_at pool index) (IsForeignConstant program pool)) (IsUnlinkedCatch program pool index) rule
catch_reported program pool index rule =
    let is = is_known program [] pool in
    reported_rule _ _ _ _ rule (foreign_catch [] pool (known_of program [] pool) index is) (unlinked_catch [] pool (known_of program [] pool) index is)

pub reported_catch : (program : Program) (pool : List Constant) (index rule : ℕ) → IsFirstOf (IsSomeAnd (constant_at pool index) (IsForeignConstant program pool)) (IsUnlinkedCatch program pool index) rule → catch_rule program pool index ≡ rule
reported_catch program pool index rule =
    let is = is_known program [] pool in
    rule_reported _ _ _ _ rule (foreign_catch [] pool (known_of program [] pool) index is) (unlinked_catch [] pool (known_of program [] pool) index is)
