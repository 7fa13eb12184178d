-- How marks are counted, and what a mark says.
use Rattle.std.specs.Prelude.{ℕ, ◌+◌, List, [], ◌∷◌, length, map, Bool, true, false}
use Rattle.rf_jtree.specs.declared.tokens.Tok.{Tok}
use Rattle.rf_jview.specs.declared.marks.Mark.{Mark}
use Rattle.rf_jview.specs.declared.marks.Mark.TheVariants as m
use Rattle.rf_jview.specs.declared.marks.Opening.{Opening}
use Rattle.rf_jview.specs.declared.marks.Opening.TheVariants as o

-- the marks without those before the last identifier of a type's name
abbrev pub steady : List Mark → List Mark
steady [] = []
steady (m.Front ∷ marks) = steady marks
steady (mark ∷ marks) = mark ∷ steady marks

-- Distances count these alone.
abbrev pub counted : List Mark → ℕ
counted marks = length (steady marks)

-- how far off the next token is, behind marks that begin so far off
abbrev pub after : ℕ → List Mark → ℕ
after back marks = back + counted marks

-- tokens at which nothing stands
abbrev pub plains : List Tok → List Mark
plains toks = map (λ tok. m.Plain) toks

-- a block that begins with a token and goes on over what these marks stand at
abbrev pub opens : Opening → List Mark → List Mark
opens opening marks = m.Opens opening (counted marks) ∷ marks

-- A declaration stands here: of a type, a field, a method, a constructor, a local variable or a parameter.
abbrev pub declares : Mark → Bool
declares m.Type = true
declares m.Field = true
declares m.NextField = true
declares m.Method = true
declares m.Ctor = true
declares m.DefaultCtor = true
declares (m.Local back) = true
declares (m.Ahead ahead) = true
declares mark = false

-- A declaration of one field or more, of a method or of a constructor begins to declare here.
abbrev pub begins_node : Mark → Bool
begins_node m.Field = true
begins_node m.Method = true
begins_node m.Ctor = true
begins_node m.DefaultCtor = true
begins_node mark = false

-- A reference has its place here. Whether a part of an expression name is one hangs on what stands before it: where that
-- names a package, and the part too, it is none (JLS 6.5.2).
abbrev pub may_refer : Mark → Bool
may_refer m.TypeName = true
may_refer (m.Part back) = true
may_refer (m.Name back) = true
may_refer m.FieldAccess = true
may_refer (m.Invokes invocation back) = true
may_refer m.Ctor = true
may_refer m.DefaultCtor = true
may_refer (m.Opens o.ImplicitSuper width) = true
may_refer mark = false

-- how far before the place of a reference its identifier stands, or its keyword
abbrev pub identifier_back : Mark → ℕ
identifier_back (m.Invokes invocation back) = back
identifier_back mark = 0
