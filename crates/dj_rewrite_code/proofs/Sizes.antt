-- How many bytes the body of a Code attribute has.
use Rattle.std.proofs.Common.{◌≡◌, ℕ, zero, suc, ◌+◌, ◌*◌, ◌<◌, ◌≤◌, ◌^◌, List, [], ◌∷◌, ◌++◌, map, length, length-append, refl, ap, arith}
use Rattle.std.specs.Prelude.{Contains}
use Rattle.std.specs.List.{flat_map}
use Rattle.dj_cursor.specs.trusted.Spelling.{table_bytes}
use Rattle.dj_ops.specs.declared.rows.CatchRow.{CatchRow}
use Rattle.dj_class.specs.trusted.ClassFile.{AttributeInfo, attribute_bytes}
use Rattle.dj_class.specs.trusted.Code.{CodeInfo, row_bytes, code_info_bytes}
use Rattle.dj_rewrite_code.specs.Answers.{with_body}

attribute_long : (a : AttributeInfo) → length (attribute_bytes a) ≡ 6 + length a.body
attribute_long a = omega arith

attributes_long : (a : AttributeInfo) (list : List AttributeInfo) → length (flat_map attribute_bytes (a ∷ list)) ≡ 6 + length a.body + length (flat_map attribute_bytes list)
attributes_long a list = let e = length-append (attribute_bytes a) (flat_map attribute_bytes list) in omega (arith, e, attribute_long a)

rows_long : (rows : List CatchRow) → length (flat_map row_bytes rows) ≡ 8 * length rows
rows_long [] = refl
rows_long (row ∷ rows) = let e = length-append (row_bytes row) (flat_map row_bytes rows) in omega (arith, e, rows_long rows)

info_long : (c : CodeInfo) → length (code_info_bytes c) ≡ 12 + length c.code + length (flat_map row_bytes c.table) + length (flat_map attribute_bytes c.attributes)
info_long c =
    let rows = table_bytes row_bytes c.table in
    let attributes = table_bytes attribute_bytes c.attributes in
    let a = length-append (c.code ++ rows) attributes in
    let b = length-append c.code rows in
    omega (arith, a, b)

-- a body within
within : (list : List AttributeInfo) (a : AttributeInfo) → Contains list a → length a.body ≤ length (flat_map attribute_bytes list)
within [] a (k, lt, is) = absurd (omega (arith, lt))
within (x ∷ list) a (zero, lt, is) = let e : x ≡ a = is in let f = ap (λ (y : AttributeInfo). length y.body) e in omega (arith, f, attributes_long x list)
within (x ∷ list) a (suc k, lt, is) = omega (arith, attributes_long x list, within list a (k, omega (arith, lt), is))

pub map_within : (c : CodeInfo) (a : AttributeInfo) → Contains c.attributes a → length a.body ≤ length (code_info_bytes c)
map_within c a there = omega (arith, info_long c, within c.attributes a there)

-- ---- with one stack map

bodies_short : (body : List ℕ) (list : List AttributeInfo) → length list ≤ 1 → length (flat_map attribute_bytes (map (with_body body) list)) ≤ 6 + length body
bodies_short body [] few = omega arith
bodies_short body (a ∷ []) few = omega (arith, attributes_long (with_body body a) [])
bodies_short body (a ∷ b ∷ list) few = absurd (omega (arith, few))

pub info_short : (c : CodeInfo) (body : List ℕ) (list : List AttributeInfo) → length c.code ≤ 65535 → length c.table ≤ 65535 → length body < 2 ^ 30 → length list ≤ 1
    → c.attributes ≡ map (with_body body) list → length (code_info_bytes c) < 2 ^ 32
info_short c body list code table short few are =
    let e = ap (λ (xs : List AttributeInfo). length (flat_map attribute_bytes xs)) are in
    omega (arith, info_long c, rows_long c.table, code, table, short, e, bodies_short body list few)
