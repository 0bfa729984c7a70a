-- The Code attribute (JVMS 4.7.3): its parts, the bytes that spell them, and which of them are valid.
use Rattle.std.specs.Prelude.{◌≡◌, ℕ, ◌^◌, ◌<◌, List, ◌++◌, length}
use Rattle.std.specs.List.{AllByRecursion}
use Rattle.dj_cursor.specs.trusted.Spelling.{u2, u4, table_bytes}
use Rattle.dj_ops.specs.declared.rows.CatchRow.{CatchRow}
use Rattle.dj_class.specs.trusted.ClassFile.{AttributeInfo, attribute_bytes}

-- JVMS 4.7.3: what the body of a Code attribute is
pub record CodeInfo : Type 0 where
  pub max_stack : ℕ
  pub max_locals : ℕ
  pub code : List ℕ
  pub table : List CatchRow
  pub attributes : List AttributeInfo

-- ---- the bytes

abbrev pub row_bytes : CatchRow → List ℕ
row_bytes row = u2 row.start ++ u2 row.end ++ u2 row.handler ++ u2 row.catch_type

abbrev pub code_info_bytes : CodeInfo → List ℕ
code_info_bytes c =
    u2 c.max_stack ++ u2 c.max_locals ++ u4 (length c.code) ++ c.code ++ table_bytes row_bytes c.table
    ++ table_bytes attribute_bytes c.attributes

-- ---- which parts are valid

pub record IsRow (row : CatchRow) : Type 0 where
  pub start : row.start < 2 ^ 16
  pub end : row.end < 2 ^ 16
  pub handler : row.handler < 2 ^ 16
  pub catch_type : row.catch_type < 2 ^ 16

-- an attribute of a Code attribute; its name isn't looked up
pub record IsCodeAttribute (a : AttributeInfo) : Type 0 where
  pub name : a.name < 2 ^ 16
  pub body : length a.body < 2 ^ 32

pub record IsCodeInfo (c : CodeInfo) : Type 0 where
  pub max_stack : c.max_stack < 2 ^ 16
  pub max_locals : c.max_locals < 2 ^ 16
  pub some_code : 0 < length c.code
  pub few_code : length c.code < 65536
  pub row_count : length c.table < 2 ^ 16
  pub rows : AllByRecursion IsRow c.table
  pub attribute_count : length c.attributes < 2 ^ 16
  pub attributes : AllByRecursion IsCodeAttribute c.attributes

-- the bytes spell the body of this Code attribute, and nothing follows
pub record IsCode (body : List ℕ) (c : CodeInfo) : Type 0 where
  pub spelled : body ≡ code_info_bytes c
  pub valid : IsCodeInfo c
