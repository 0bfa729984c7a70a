-- What the view of a field or a method shows.
use Rattle.dj_class.specs.declared.class.MemberView.{MemberView}
use Rattle.dj_class.specs.trusted.ClassFile.{MemberInfo}

abbrev pub member_of : MemberView → MemberInfo
member_of m = record { flags = m.flags; name = m.name; desc = m.desc; attributes = m.attributes }
