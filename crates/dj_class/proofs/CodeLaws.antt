-- The body of a Code attribute that is read is spelled so, one that is spelled so is read, and reading fails exactly where there is a fault.
use Rattle.std.proofs.Common.{◌≡◌, ℕ, ◌^◌, ◌<◌, ◌&&◌, true, if◌then◌else◌, nat_lt, List, [], ◌++◌, length, Result, Ok, Err, refl, sym, ap, subst, ◌∙◌, append_assoc, append-nil, arith}
use Rattle.std.proofs.lemmas.Bool.{eqb-true}
use Rattle.std.proofs.lemmas.Bool.Decides.{nat_tests}
use Rattle.std.proofs.lemmas.List.{nil_from_length}
use Rattle.dj_cursor.specs.trusted.Spelling.{u2, u4, table_bytes}
use Rattle.dj_cursor.specs.Steps.{◌>>=◌, Gives}
use Rattle.dj_cursor.specs.Reading.{Cursor, start_of, at_end, block_at, u2_at, table_at}
use Rattle.dj_cursor.proofs.Bytes.{IsBytes}
use Rattle.dj_cursor.specs.Faults.{IsCut, InTurn, Fits2}
use Rattle.dj_cursor.proofs.Steps.{bind_again, four_steps, guard_ok, guard_again}
use Rattle.dj_cursor.proofs.Spans.{Spans, Spans-then, Spans-end, Reads, step_takes, step_again}
use Rattle.dj_cursor.proofs.Numbers.{u2_reads, u4_reads, block_reads}
use Rattle.dj_cursor.proofs.Parts.{table_reads}
use Rattle.dj_cursor.proofs.FaultLaws.{Refuses, Refuses-same, u2_refuses, u4_refuses, block_refuses, refuses_then, refuses_last, table_refuses, guard_refuses, end_refuses}
use Rattle.dj_ops.specs.declared.rows.CatchRow.{CatchRow}
use Rattle.dj_pool.specs.declared.pool.PoolError.TheVariants as pool_errors
use Rattle.dj_class.specs.declared.class.ClassError.{ClassError}
use Rattle.dj_class.specs.declared.class.ClassError.TheVariants as class_errors
use Rattle.dj_class.specs.declared.code.CodeView.{CodeView}
use Rattle.dj_class.specs.trusted.ClassFile.{AttributeInfo, attribute_bytes}
use Rattle.dj_class.specs.trusted.Code.{CodeInfo, row_bytes, code_info_bytes, IsRow, IsCodeAttribute, IsCode}
use Rattle.dj_class.specs.Faults.{Fault, Cut2}
use Rattle.dj_class.specs.CodeFaults.{IsCodeLength, LengthFault, RowFault, CodeAttributeFault, BodyFault, IsCodeFault}
use Rattle.dj_class.specs.CodeViews.{code_of, ReadsCode}
use Rattle.dj_class.specs.Laws.{CodeOrFault, IsOneCode, IsFaultyCode}
use Rattle.dj_class.specs.CodeReading.{code_length_at, code_prefix_at, row_at, code_attribute_at, code_read}
use Rattle.dj_class.specs.Memory.{code_is_memory}

-- ---- rows

row_takes : (c : Cursor) (x : CatchRow × Cursor) → IsBytes c.rest → row_at c ≡ Ok x → Spans c (row_bytes x.0) x.1 × IsRow x.0
unfolding row_at
row_takes c x fits e =
    let start = step_takes (u2_reads class_errors.Cut) c fits e in
    let end = step_takes (u2_reads class_errors.Cut) start.next start.fits start.rest in
    let handler = step_takes (u2_reads class_errors.Cut) end.next end.fits end.rest in
    let catch_type = step_takes (u2_reads class_errors.Cut) handler.next handler.fits handler.rest in
    let made : (record { start = start.value; end = end.value; handler = handler.value; catch_type = catch_type.value }, catch_type.next) ≡ x = cc (catch_type.rest) in
    let spelled : Spans c (u2 start.value ++ (u2 end.value ++ (u2 handler.value ++ u2 catch_type.value))) catch_type.next = Spans-then start.spans (Spans-then end.spans (Spans-then handler.spans catch_type.spans)) in
    subst (λ (y : CatchRow × Cursor). Spans c (row_bytes y.0) y.1 × IsRow y.0) made
    (spelled, record { start = start.good; end = end.good; handler = handler.good; catch_type = catch_type.good })

row_again : (c : Cursor) (x : CatchRow) (next : Cursor) → IsRow x → Spans c (row_bytes x) next → row_at c ≡ Ok (x, next)
unfolding row_at
row_again c x next good s =
    let start = step_again (u2_reads class_errors.Cut) c x.start (u2 x.end ++ (u2 x.handler ++ u2 x.catch_type)) next good.start s in
    let end = step_again (u2_reads class_errors.Cut) start.0 x.end (u2 x.handler ++ u2 x.catch_type) next good.end start.2 in
    let handler = step_again (u2_reads class_errors.Cut) end.0 x.handler (u2 x.catch_type) next good.handler end.2 in
    bind_again _ start.1 (bind_again _ end.1 (bind_again _ handler.1 (bind_again _ ((u2_reads class_errors.Cut).again handler.0 x.catch_type next good.catch_type handler.2) refl)))

pub row_reads : Reads row_at row_bytes IsRow
row_reads = record { takes = row_takes; again = row_again }

row_refuses : Refuses row_at RowFault
unfolding row_at
row_refuses =
    refuses_then _ (u2_reads class_errors.Cut) (u2_refuses class_errors.Cut) (λ start _.
    refuses_then _ (u2_reads class_errors.Cut) (u2_refuses class_errors.Cut) (λ end _.
    refuses_then _ (u2_reads class_errors.Cut) (u2_refuses class_errors.Cut) (λ handler _.
    refuses_last _ (u2_refuses class_errors.Cut))))

-- ---- attributes

code_attribute_takes : (c : Cursor) (x : AttributeInfo × Cursor) → IsBytes c.rest → code_attribute_at c ≡ Ok x → Spans c (attribute_bytes x.0) x.1 × IsCodeAttribute x.0
unfolding code_attribute_at
code_attribute_takes c x fits e =
    let name = step_takes (u2_reads class_errors.Cut) c fits e in
    let len = step_takes (u4_reads class_errors.Cut) name.next name.fits name.rest in
    let body = step_takes (block_reads class_errors.Cut len.value) len.next len.fits len.rest in
    let made : (record { name = name.value; body = body.value }, body.next) ≡ x = cc (body.rest) in
    let whole : Spans c (u2 name.value ++ (u4 len.value ++ body.value)) body.next = Spans-then name.spans (Spans-then len.spans body.spans) in
    let spelled : Spans c (u2 name.value ++ (u4 (length body.value) ++ body.value)) body.next = subst (λ (k : ℕ). Spans c (u2 name.value ++ (u4 k ++ body.value)) body.next) (sym body.good) whole in
    subst (λ (y : AttributeInfo × Cursor). Spans c (attribute_bytes y.0) y.1 × IsCodeAttribute y.0) made (spelled, record { name = name.good; body = omega (arith, body.good, len.good) })

code_attribute_again : (c : Cursor) (x : AttributeInfo) (next : Cursor) → IsCodeAttribute x → Spans c (attribute_bytes x) next → code_attribute_at c ≡ Ok (x, next)
unfolding code_attribute_at
code_attribute_again c x next good s =
    let name = step_again (u2_reads class_errors.Cut) c x.name (u4 (length x.body) ++ x.body) next good.name s in
    let len = step_again (u4_reads class_errors.Cut) name.0 (length x.body) x.body next good.body name.2 in
    bind_again _ name.1 (bind_again _ len.1 (bind_again _ ((block_reads class_errors.Cut (length x.body)).again len.0 x.body next refl len.2) refl))

pub code_attribute_reads : Reads code_attribute_at attribute_bytes IsCodeAttribute
code_attribute_reads = record { takes = code_attribute_takes; again = code_attribute_again }

code_attribute_refuses : Refuses code_attribute_at CodeAttributeFault
unfolding code_attribute_at
code_attribute_refuses =
    refuses_then _ (u2_reads class_errors.Cut) (u2_refuses class_errors.Cut) (λ name _.
    refuses_then _ (u4_reads class_errors.Cut) (u4_refuses class_errors.Cut) (λ len _.
    refuses_last _ (block_refuses class_errors.Cut len)))

-- ---- what stands before the exception table

length_takes : (c : Cursor) (x : ℕ × Cursor) → IsBytes c.rest → code_length_at c ≡ Ok x → Spans c (u4 x.0) x.1 × IsCodeLength x.0
unfolding code_length_at
length_takes c x fits e =
    let len = step_takes (u4_reads class_errors.Cut) c fits e in
    let g = guard_ok _ len.rest in
    let good : IsCodeLength len.value = grind (arith, nat_tests) in
    subst (λ (y : ℕ × Cursor). Spans c (u4 y.0) y.1 × IsCodeLength y.0) g.1 (len.spans, good)

length_again : (c : Cursor) (n : ℕ) (next : Cursor) → IsCodeLength n → Spans c (u4 n) next → code_length_at c ≡ Ok (n, next)
unfolding code_length_at
length_again c n next good s =
    let passes : (nat_lt 0 n && nat_lt n 65536) ≡ true = grind (arith, nat_tests) in
    bind_again _ ((u4_reads class_errors.Cut).again c n next (omega (arith, good.1)) s) (guard_again _ passes)

length_reads : Reads code_length_at u4 IsCodeLength
length_reads = record { takes = length_takes; again = length_again }

length_refuses : Refuses code_length_at LengthFault
unfolding code_length_at
length_refuses = guard_refuses (λ n. nat_lt 0 n && nat_lt n 65536) IsCodeLength class_errors.Index (u4_reads class_errors.Cut) (u4_refuses class_errors.Cut) (λ n h. grind (arith, nat_tests)) (λ n h. grind (arith, nat_tests))

abbrev prefix_bytes : ℕ × ℕ × List ℕ → List ℕ
prefix_bytes f = u2 f.0 ++ (u2 f.1 ++ (u4 (length f.2) ++ f.2))

record IsPrefix (f : ℕ × ℕ × List ℕ) : Type 0 where
  pub max_stack : f.0 < 2 ^ 16
  pub max_locals : f.1 < 2 ^ 16
  pub code : IsCodeLength (length f.2)

prefix_takes : (c : Cursor) (x : (ℕ × ℕ × List ℕ) × Cursor) → IsBytes c.rest → code_prefix_at c ≡ Ok x → Spans c (prefix_bytes x.0) x.1 × IsPrefix x.0
unfolding code_prefix_at
prefix_takes c x fits e =
    let max_stack = step_takes (u2_reads class_errors.Cut) c fits e in
    let max_locals = step_takes (u2_reads class_errors.Cut) max_stack.next max_stack.fits max_stack.rest in
    let len = step_takes length_reads max_locals.next max_locals.fits max_locals.rest in
    let code = step_takes (block_reads class_errors.Cut len.value) len.next len.fits len.rest in
    let made : ((max_stack.value, max_locals.value, code.value), code.next) ≡ x = cc (code.rest) in
    let whole : Spans c (u2 max_stack.value ++ (u2 max_locals.value ++ (u4 len.value ++ code.value))) code.next = Spans-then max_stack.spans (Spans-then max_locals.spans (Spans-then len.spans code.spans)) in
    let spelled : Spans c (prefix_bytes (max_stack.value, max_locals.value, code.value)) code.next = subst (λ (k : ℕ). Spans c (u2 max_stack.value ++ (u2 max_locals.value ++ (u4 k ++ code.value))) code.next) (sym code.good) whole in
    subst (λ (y : (ℕ × ℕ × List ℕ) × Cursor). Spans c (prefix_bytes y.0) y.1 × IsPrefix y.0) made
    (spelled, record { max_stack = max_stack.good; max_locals = max_locals.good; code = subst IsCodeLength (sym code.good) len.good })

prefix_again : (c : Cursor) (f : ℕ × ℕ × List ℕ) (next : Cursor) → IsPrefix f → Spans c (prefix_bytes f) next → code_prefix_at c ≡ Ok (f, next)
unfolding code_prefix_at
prefix_again c f next good s =
    let max_stack = step_again (u2_reads class_errors.Cut) c f.0 (u2 f.1 ++ (u4 (length f.2) ++ f.2)) next good.max_stack s in
    let max_locals = step_again (u2_reads class_errors.Cut) max_stack.0 f.1 (u4 (length f.2) ++ f.2) next good.max_locals max_stack.2 in
    let len = step_again length_reads max_locals.0 (length f.2) f.2 next good.code max_locals.2 in
    bind_again _ max_stack.1 (bind_again _ max_locals.1 (bind_again _ len.1 (bind_again _ ((block_reads class_errors.Cut (length f.2)).again len.0 f.2 next refl len.2) refl)))

prefix_reads : Reads code_prefix_at prefix_bytes IsPrefix
prefix_reads = record { takes = prefix_takes; again = prefix_again }

-- this, and what follows it
prefix_refuses_then : {B : Type 0} {Later : Fault} (k : (ℕ × ℕ × List ℕ) × Cursor → Result B ClassError) → ((f : ℕ × ℕ × List ℕ) → IsPrefix f → Refuses (λ c. k (f, c)) Later)
    → Refuses (λ c. code_prefix_at c >>= k) (InTurn Cut2 u2 Fits2 (λ max_stack. InTurn Cut2 u2 Fits2 (λ max_locals. InTurn LengthFault u4 IsCodeLength (λ len. InTurn (IsCut class_errors.Cut len) (λ code. code) (λ code. length code ≡ len) (λ code. Later)))))
unfolding code_prefix_at
prefix_refuses_then k later = Refuses-same
    (λ c. four_steps (u2_at class_errors.Cut c) (λ max_stack. u2_at class_errors.Cut max_stack.1) (λ max_stack max_locals. code_length_at max_locals.1) (λ max_stack max_locals len. block_at class_errors.Cut len.0 len.1)
    (λ max_stack max_locals len code. ((max_stack.0, max_locals.0, code.0), code.1)) k)
    (refuses_then _ (u2_reads class_errors.Cut) (u2_refuses class_errors.Cut) (λ max_stack fits_stack.
    refuses_then _ (u2_reads class_errors.Cut) (u2_refuses class_errors.Cut) (λ max_locals fits_locals.
    refuses_then _ length_reads length_refuses (λ len good.
    refuses_then _ (block_reads class_errors.Cut len) (block_refuses class_errors.Cut len) (λ code whole.
    later (max_stack, max_locals, code) (record { max_stack = fits_stack; max_locals = fits_locals; code = subst IsCodeLength (sym whole) good }))))))

-- ---- the whole body

abbrev prefix_of : CodeInfo → ℕ × ℕ × List ℕ
prefix_of c = (c.max_stack, c.max_locals, c.code)

abbrev whole_of : ℕ × ℕ × List ℕ → List CatchRow → List AttributeInfo → CodeInfo
whole_of f table attributes = record { max_stack = f.0; max_locals = f.1; code = f.2; table = table; attributes = attributes }

regroup : (s l n c t a : List ℕ) → (s ++ (l ++ (n ++ c))) ++ (t ++ a) ≡ ((((s ++ l) ++ n) ++ c) ++ t) ++ a
regroup s l n c t a = simp append_assoc

-- the bytes, part by part
parts_are : (f : ℕ × ℕ × List ℕ) (table : List CatchRow) (attributes : List AttributeInfo)
    → prefix_bytes f ++ (table_bytes row_bytes table ++ table_bytes attribute_bytes attributes) ≡ code_info_bytes (whole_of f table attributes)
parts_are f table attributes = regroup (u2 f.0) (u2 f.1) (u4 (length f.2)) f.2 (table_bytes row_bytes table) (table_bytes attribute_bytes attributes)

code_takes : (body : List ℕ) (c : CodeInfo) → IsBytes body → code_read body ≡ Ok c → IsCode body c
unfolding code_read
code_takes body c fits e =
    let prefix = step_takes prefix_reads (start_of body) fits e in
    let table = step_takes (table_reads class_errors.Cut row_reads) prefix.next prefix.fits prefix.rest in
    let attributes = step_takes (table_reads class_errors.Cut code_attribute_reads) table.next table.fits table.rest in
    let g = guard_ok _ attributes.rest in
    let nothing : attributes.next.rest ≡ [] = nil_from_length attributes.next.rest (eqb-true _ _ g.0) in
    let spans : Spans (start_of body) (prefix_bytes prefix.value ++ (table_bytes row_bytes table.value ++ table_bytes attribute_bytes attributes.value)) attributes.next = Spans-then prefix.spans (Spans-then table.spans attributes.spans) in
    subst (IsCode body) g.1 (record {
      spelled = Spans-end (start_of body) _ attributes.next spans nothing ∙ parts_are prefix.value table.value attributes.value;
      valid = record {
        max_stack = prefix.good.max_stack;
        max_locals = prefix.good.max_locals;
        some_code = prefix.good.code.0;
        few_code = prefix.good.code.1;
        row_count = table.good.0;
        rows = table.good.1;
        attribute_count = attributes.good.0;
        attributes = attributes.good.1;
      };
    })

code_again : (body : List ℕ) (c : CodeInfo) → IsCode body c → code_read body ≡ Ok c
unfolding code_read
code_again body c is =
    let v = is.valid in
    let end : Cursor = record { place = length body; rest = [] } in
    let tail : List ℕ = table_bytes row_bytes c.table ++ table_bytes attribute_bytes c.attributes in
    let spelled : body ≡ prefix_bytes (prefix_of c) ++ tail = is.spelled ∙ sym (parts_are (prefix_of c) c.table c.attributes) in
    let whole : Spans (start_of body) (prefix_bytes (prefix_of c) ++ tail) end = record { parts = spelled ∙ sym (append-nil _); place = omega (arith, ap length spelled) } in
    let prefix = step_again prefix_reads (start_of body) (prefix_of c) tail end (record { max_stack = v.max_stack; max_locals = v.max_locals; code = (v.some_code, v.few_code) }) whole in
    let table = step_again (table_reads class_errors.Cut row_reads) prefix.0 c.table (table_bytes attribute_bytes c.attributes) end (v.row_count, v.rows) prefix.2 in
    let attributes = (table_reads class_errors.Cut code_attribute_reads).again table.0 c.attributes end (v.attribute_count, v.attributes) table.2 in
    bind_again _ prefix.1 (bind_again _ table.1 (bind_again _ attributes (guard_again (class_errors.Trailing (length body)) refl)))

-- a body is one Code attribute's at most
pub one_code : (body : List ℕ) (c d : CodeInfo) → IsCode body c → IsCode body d → c ≡ d
one_code body c d p q =
    let one = code_again body c p in
    let other = code_again body d q in
    cc

-- ---- faults

-- the whole body, from where the reader stands
abbrev body_at : Cursor → Result CodeInfo ClassError
body_at c = do
  prefix ← code_prefix_at c
  table ← table_at class_errors.Cut row_at prefix.1
  attributes ← table_at class_errors.Cut code_attribute_at table.1
  if at_end attributes.1 then Ok (whole_of prefix.0 table.0 attributes.0) else Err (class_errors.Trailing attributes.1.place)

body_refuses : Refuses body_at BodyFault
body_refuses =
    prefix_refuses_then _ (λ prefix _.
    refuses_then _ (table_reads class_errors.Cut row_reads) (table_refuses class_errors.Cut row_reads row_refuses) (λ table _.
    refuses_then _ (table_reads class_errors.Cut code_attribute_reads) (table_refuses class_errors.Cut code_attribute_reads code_attribute_refuses) (λ attributes _.
    end_refuses class_errors.Trailing (whole_of prefix table attributes))))

-- the first fault is what the reader meets
fault_reported : (body : List ℕ) (e : ClassError) → IsBytes body → code_read body ≡ Err e → IsCodeFault body e
unfolding code_read
fault_reported body e fits h = body_refuses.says (start_of body) e fits h

fault_again : (body : List ℕ) (e : ClassError) → IsCodeFault body e → code_read body ≡ Err e
unfolding code_read
fault_again body e fault = body_refuses.again (start_of body) e fault

-- a body has one first fault at most
pub one_code_fault : (body : List ℕ) (a b : ClassError) → IsCodeFault body a → IsCodeFault body b → a ≡ b
one_code_fault body a b p q =
    let one = fault_again body a p in
    let other = fault_again body b q in
    cc

pub faulty_is_no_code : (body : List ℕ) (e : ClassError) → IsCodeFault body e → (c : CodeInfo) → IsCode body c → ⊥
faulty_is_no_code body e fault c is =
    let one = fault_again body e fault in
    let other = code_again body c is in
    absurd cc

decided : (body : List ℕ) (r : Result CodeInfo ClassError) → IsBytes body → code_read body ≡ r → CodeOrFault body
decided body (Ok c) fits h = IsOneCode c (code_takes body c fits h)
decided body (Err e) fits h = IsFaultyCode e (fault_reported body e fits h)

pub code_or_fault : (body : List ℕ) → IsBytes body → CodeOrFault body
code_or_fault body fits = decided body (code_read body) fits refl

pub reads_code : (body : List ℕ) (r : Result CodeView ClassError) → IsBytes body → Gives code_is_memory code_of r (code_read body) → ReadsCode body r
reads_code body (Ok view) fits given = code_takes body (code_of view) fits given
reads_code body (Err (class_errors.Pool pool_errors.Memory)) fits given = fault_reported body _ fits given
reads_code body (Err (class_errors.Pool (pool_errors.Cut p))) fits given = fault_reported body _ fits given
reads_code body (Err (class_errors.Pool (pool_errors.Tag p))) fits given = fault_reported body _ fits given
reads_code body (Err (class_errors.Pool (pool_errors.Link p))) fits given = fault_reported body _ fits given
reads_code body (Err (class_errors.Pool (pool_errors.Text p))) fits given = fault_reported body _ fits given
reads_code body (Err class_errors.Memory) fits given = tt
reads_code body (Err class_errors.Magic) fits given = fault_reported body _ fits given
reads_code body (Err (class_errors.Cut p)) fits given = fault_reported body _ fits given
reads_code body (Err (class_errors.Index p)) fits given = fault_reported body _ fits given
reads_code body (Err (class_errors.Trailing p)) fits given = fault_reported body _ fits given
