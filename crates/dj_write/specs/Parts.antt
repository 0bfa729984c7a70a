-- Parts of class files that are written apart from the rest.
use Rattle.std.specs.Prelude.{List}
use Rattle.dj_pool.specs.trusted.Pool.{Constant}
use Rattle.dj_class.specs.trusted.ClassFile.{ClassFile}

-- these constants in place of a class file's
abbrev pub with_pool : List Constant → ClassFile → ClassFile
with_pool pool c = record {
  minor = c.minor;
  major = c.major;
  pool = pool;
  flags = c.flags;
  this_class = c.this_class;
  super_class = c.super_class;
  interfaces = c.interfaces;
  fields = c.fields;
  methods = c.methods;
  attributes = c.attributes;
}
