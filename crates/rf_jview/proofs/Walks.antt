-- What is noted one after the other, and what ends a block.
use Rattle.std.proofs.Common.{◌≡◌, ◌<◌, ℕ, suc, ◌+◌, ◌-◌, List, [], ◌∷◌, ◌++◌, length, slice_set, refl, sym, ap, ◌∙◌, arith, append_assoc, append-nil, length-append}
use Rattle.std.proofs.Math.Seq.{set-append_seam}
use Rattle.rf_jtree.specs.declared.tokens.Tok.{Tok}
use Rattle.rf_jview.specs.declared.accounts.Account.{Account}
use Rattle.rf_jview.specs.declared.marks.Invocation.{Invocation}
use Rattle.rf_jview.specs.declared.marks.Mark.{Mark}
use Rattle.rf_jview.specs.declared.marks.Mark.TheVariants as m
use Rattle.rf_jview.specs.declared.marks.Opening.{Opening}
use Rattle.rf_jview.specs.Accounts.{back_of, invoke_mark, noted, entered, start_of, opened, pointed}
use Rattle.rf_jview.specs.MarkWords.{steady, counted, plains, opens}
use Rattle.rf_jview.proofs.Alike.{steady-append}

pub counted-append : (some more : List Mark) → counted (some ++ more) ≡ counted some + counted more
counted-append some more = ap length (steady-append some more) ∙ length-append (steady some) (steady more)

pub noted-nil : (account : Account) → noted account [] ≡ account
unfolding noted
noted-nil account = ap (λ list. let whole : Account = record { list = list; back = account.back + 0 } in whole) (append-nil account.list) ∙ same
  where
    zero_more : account.back + 0 ≡ account.back
    zero_more = omega arith

    same : (let whole : Account = record { list = account.list; back = account.back + 0 } in whole) ≡ account
    same = ap (λ back. let whole : Account = record { list = account.list; back = back } in whole) zero_more

pub noted-noted : (account : Account) (some more : List Mark) → noted (noted account some) more ≡ noted account (some ++ more)
unfolding noted
noted-noted account some more =
    ap (λ list. let whole : Account = record { list = list; back = account.back + counted some + counted more } in whole) (append_assoc account.list some more)
    ∙ ap (λ back. let whole : Account = record { list = account.list ++ (some ++ more); back = back } in whole) backs
  where
    counts : counted (some ++ more) ≡ counted some + counted more
    counts = counted-append some more

    backs : account.back + counted some + counted more ≡ account.back + counted (some ++ more)
    backs = omega (arith, counts)

pub back-noted : (account : Account) (marks : List Mark) → back_of (noted account marks) ≡ back_of account + counted marks
unfolding noted back_of
back-noted account marks = refl

pub back-entered : (account : Account) → back_of (entered account) ≡ 1
unfolding entered back_of
back-entered account = refl

pub invoked-noted : (invocation : Invocation) (back : ℕ) (account : Account) (marks : List Mark)
    → invoke_mark invocation back (back_of account) (noted account (m.Plain ∷ marks)) ≡ m.Invokes invocation (back + 1 + counted marks)
unfolding noted back_of invoke_mark
invoked-noted invocation back account marks = ap (m.Invokes invocation) widths
  where
    widths : back + (account.back + counted (m.Plain ∷ marks) - account.back) ≡ back + 1 + counted marks
    widths = omega arith

pub begun : (account : Account) (marks : List Mark) → (start_of account).at < length (noted (entered account) marks).list
unfolding noted start_of entered
begun account marks = rw (length-append (account.list ++ m.Plain ∷ []) marks, length-append account.list (m.Plain ∷ [])) (omega arith)

pub awaited : (account : Account) (marks : List Mark) → (start_of account).at < length (noted account (m.Ahead 0 ∷ m.Plain ∷ marks)).list
unfolding noted start_of
awaited account marks = rw (length-append account.list (m.Ahead 0 ∷ m.Plain ∷ marks)) (omega arith)

pub opened-noted : (opening : Opening) (account : Account) (marks : List Mark)
    → opened opening (start_of account) (noted (entered account) marks) ≡ noted account (opens opening marks)
unfolding noted start_of entered opened
opened-noted opening account marks =
    ap (λ width. let whole : Account = record { list = slice_set ((account.list ++ m.Plain ∷ []) ++ marks) (length account.list) (m.Opens opening width); back = account.back + (1 + counted marks) } in whole) widths
    ∙ (ap (λ list. let whole : Account = record { list = list; back = account.back + (1 + counted marks) } in whole) lists
    ∙ ap (λ width. let whole : Account = record { list = account.list ++ m.Opens opening (counted marks) ∷ marks; back = account.back + width } in whole) sums)
  where
    widths : 1 + counted marks - 1 ≡ counted marks
    widths = omega arith

    sums : 1 + counted marks ≡ suc (counted marks)
    sums = omega arith

    lists : slice_set ((account.list ++ m.Plain ∷ []) ++ marks) (length account.list) (m.Opens opening (counted marks)) ≡ account.list ++ m.Opens opening (counted marks) ∷ marks
    lists = ap (λ list. slice_set list (length account.list) (m.Opens opening (counted marks))) (append_assoc account.list (m.Plain ∷ []) marks)
        ∙ set-append_seam account.list m.Plain marks (m.Opens opening (counted marks))

pub pointed-noted : (account : Account) (marks : List Mark)
    → pointed (start_of account) (noted account (m.Ahead 0 ∷ m.Plain ∷ marks)) ≡ noted account (m.Ahead (2 + counted marks) ∷ m.Plain ∷ marks)
unfolding noted start_of pointed
pointed-noted account marks =
    ap (λ ahead. let whole : Account = record { list = slice_set (account.list ++ m.Ahead 0 ∷ m.Plain ∷ marks) (length account.list) (m.Ahead ahead); back = account.back + counted (m.Ahead 0 ∷ m.Plain ∷ marks) } in whole) aheads
    ∙ ap (λ list. let whole : Account = record { list = list; back = account.back + counted (m.Ahead 0 ∷ m.Plain ∷ marks) } in whole)
    (set-append_seam account.list (m.Ahead 0) (m.Plain ∷ marks) (m.Ahead (2 + counted marks)))
  where
    aheads : account.back + counted (m.Ahead 0 ∷ m.Plain ∷ marks) - account.back ≡ 2 + counted marks
    aheads = omega arith

pub plains-append : (some more : List Tok) → plains (some ++ more) ≡ plains some ++ plains more
plains-append [] more = refl
plains-append (tok ∷ some) more = ap (λ marks. m.Plain ∷ marks) (plains-append some more)

pub ruleset plain_walks = (noted-noted, noted-nil, append_assoc, append-nil, plains-append)

pub ruleset walks = (noted-noted, noted-nil, append_assoc, append-nil)

pub ruleset calls = (noted-noted, noted-nil, append_assoc, append-nil, invoked-noted)

pub ruleset blocks = (noted-noted, noted-nil, append_assoc, append-nil, back-noted, back-entered, begun, opened-noted)

pub ruleset variables = (noted-noted, noted-nil, append_assoc, append-nil, back-noted)

pub ruleset points = (noted-noted, noted-nil, append_assoc, append-nil, awaited, pointed-noted)
