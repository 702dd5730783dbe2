-- What each form of a mention does.
use Rattle.std.specs.Prelude.{ℕ, Bool, true, false, ◌||◌, ◌==◌, nat_lt, Option, Some, None}
use Rattle.py_mentions.specs.declared.mention.Form.{Form}
use Rattle.py_mentions.specs.declared.mention.Form.TheVariants as form

abbrev pub is_parameter : Form → Bool
is_parameter form.Parameter = true
is_parameter _ = false

-- it binds the name in the function or text in which it stands
abbrev pub binds : Form → Bool
binds form.Target = true
binds form.Function = true
binds form.Class = true
binds _ = false

abbrev pub is_member : Form → Bool
is_member form.Member = true
is_member (form.Method count) = true
is_member _ = false

abbrev pub is_caught : Form → Bool
is_caught form.Caught = true
is_caught _ = false

-- it gives the name a meaning of the script's own, wherever that holds
abbrev pub names_anew : Form → Bool
names_anew f = binds f || is_parameter f || is_member f || is_caught f

abbrev pub is_global : Form → Bool
is_global form.Global = true
is_global _ = false

abbrev pub is_nonlocal : Form → Bool
is_nonlocal form.Nonlocal = true
is_nonlocal _ = false

-- it reads the name, or names a class by it
abbrev pub reads : Form → Bool
reads form.Read = true
reads form.Exception = true
reads form.Raised = true
reads form.Base = true
reads _ = false

-- a `global` or `nonlocal` may not come behind it
abbrev pub uses : Form → Bool
uses f = binds f || reads f

-- the name stands for what a scope holds
abbrev pub looks_up : Form → Bool
looks_up f = uses f || is_nonlocal f

abbrev pub is_class : Form → Bool
is_class form.Class = true
is_class _ = false

abbrev pub is_base : Form → Bool
is_base form.Base = true
is_base _ = false

abbrev pub is_method : Form → Bool
is_method (form.Method count) = true
is_method _ = false

abbrev pub is_attribute : Form → Bool
is_attribute form.Attribute = true
is_attribute _ = false

abbrev pub is_raised : Form → Bool
is_raised form.Raised = true
is_raised _ = false

-- ---- numbers that may be missing

abbrev pub is_number : ℕ → Option ℕ → Bool
is_number k None = false
is_number k (Some n) = n == k

abbrev pub is_below : ℕ → Option ℕ → Bool
is_below k None = false
is_below k (Some n) = nat_lt n k
