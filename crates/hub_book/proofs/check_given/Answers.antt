-- `check_given`: each part by what was found.
use mathlib.Core.Path.{◌≡◌, sym, ap, ◌∙◌}
use Rattle.std.proofs.Common.{ℕ, List}
use Rattle.std.proofs.lemmas.Result.{err_from_is_err_and}
use Rattle.tariff.specs.Refusals.{Checked}
use Rattle.hub_book.specs.declared.Terms.{Terms}
use Rattle.tariff.specs.Refusals.{first}
use Rattle.layouts.specs.declared.forms.Form.{Form}
use Rattle.layouts.specs.Forms.{ends_below_of}
use Rattle.layouts.specs.BookFile.{book_form_in}
use Rattle.layouts.proofs.BookFile.{ends_some}
use Rattle.tariff.proofs.Checks.{nodes-some_of}
use Rattle.book_rules.proofs.Accepted.{own_parts, own_header}
use Rattle.hub_book.specs.Inner.{term_checks}
use Rattle.hub_book.proofs.Checking.{own_refuses, terms_refuse, shape-next}
use Rattle.hub_book.proofs.check_given.Goals as goal

pub returns-in_err-check_own : goal.returns-in_err-check_own
returns-in_err-check_own c =
    let k = c in
    let a = k.args in
    let p = err_from_is_err_and c.from_residual.result c.from_residual.ensures.1 in
    rw (p.1, p.2) (sym (own_refuses a.nodes a.book.now a.terms a.hub.now a.weights.now a.quantity _ (sym k.check_own.ensures ∙ c.in_err-check_own.was)))

pub book_form-form-requires : goal.book_form-form-requires
book_form-form-requires c = let a = c.args in own_header a.nodes a.book.now (sym c.check_own.ensures ∙ c.in_ok-check_own.was)

pub check_terms-requires : goal.check_terms-requires
check_terms-requires c =
    let a = c.args in
    let accepted = sym c.check_own.ensures ∙ c.in_ok-check_own.was in
    rw c.ends_below-below.ensures (ends_some c.book_form-form.result a.nodes (nodes-some_of a.nodes (own_parts a.nodes a.book.now accepted).0))

-- what the terms' checks found, by the form that the book says
terms-told : (nodes : ℕ) (book : List ℕ) (terms : Terms) (hub : List ℕ) (quantity : ℕ) (form : Form) (below : ℕ) (found : Checked) → form ≡ book_form_in book
    → below ≡ ends_below_of form nodes → found ≡ first (term_checks below terms hub quantity)
    → first (term_checks (ends_below_of (book_form_in book) nodes) terms hub quantity) ≡ found
terms-told nodes book terms hub quantity form below found form-is below-is found-is =
    let ends = ap (λ (f : Form). ends_below_of f nodes) (sym form-is) ∙ sym below-is in
    ap (λ (b : ℕ). first (term_checks b terms hub quantity)) ends
    ∙ sym found-is

pub returns-in_err-check_terms : goal.returns-in_err-check_terms
returns-in_err-check_terms c =
    let a = c.args in
    let told = terms-told a.nodes a.book.now a.terms a.hub.now a.quantity _ _ _ c.book_form-form.ensures c.ends_below-below.ensures c.check_terms.ensures in
    let p = err_from_is_err_and c.from_residual-in_err-check_terms.result c.from_residual-in_err-check_terms.ensures.1 in
    rw (p.1, p.2) (sym (terms_refuse a.nodes a.book.now a.terms a.hub.now a.weights.now a.quantity (sym c.check_own.ensures ∙ c.in_ok-check_own.was) _ (told ∙ c.in_err-check_terms.was)))

pub returns : goal.returns
returns c =
    let a = c.args in
    let told = terms-told a.nodes a.book.now a.terms a.hub.now a.quantity _ _ _ c.book_form-form.ensures c.ends_below-below.ensures c.check_terms.ensures in
    c.check_shape.ensures
    ∙ sym (shape-next a.nodes a.book.now a.terms a.hub.now a.weights.now a.quantity (sym c.check_own.ensures ∙ c.in_ok-check_own.was) (told ∙ c.in_ok-check_terms.was))
