-- What the view of a class file shows, and what reading one answers.
use Rattle.std.specs.Prelude.{ℕ, ⊤, List, Result, Ok, Err}
use Rattle.dj_pool.specs.declared.pool.PoolError.TheVariants as pool_errors
use Rattle.dj_class.specs.declared.class.ClassError.{ClassError}
use Rattle.dj_class.specs.declared.class.ClassError.TheVariants as class_errors
use Rattle.dj_class.specs.declared.class.ClassView.{ClassView}
use Rattle.dj_class.specs.trusted.ClassFile.{ClassFile, IsClassFile}
use Rattle.dj_class.specs.Faults.{IsFault}

abbrev pub class_of : ClassView → ClassFile
class_of c = record {
  minor = c.minor;
  major = c.major;
  pool = c.pool;
  flags = c.flags;
  this_class = c.this_class;
  super_class = c.super_class;
  interfaces = c.interfaces;
  fields = c.fields;
  methods = c.methods;
  attributes = c.attributes;
}

-- a class file is read, or its first fault is reported, or memory ran out
abbrev pub ReadsClass : List ℕ → Result ClassView ClassError → Type 0
ReadsClass bytes (Ok view) = IsClassFile bytes (class_of view)
ReadsClass bytes (Err (class_errors.Pool pool_errors.Memory)) = ⊤
ReadsClass bytes (Err class_errors.Memory) = ⊤
ReadsClass bytes (Err e) = IsFault bytes e
