-- `check_book`.
use mathlib.Core.Path.{◌∙◌}
use Rattle.book_rules.proofs.Checking.{short-book, many_contracts, spare-other, wrong_length, right-header}
use Rattle.book_checks.proofs.check_book.Goals as goal

pub returns-then-file-lt-BOOK_HEADER_BYTES : goal.returns-then-file-lt-BOOK_HEADER_BYTES
returns-then-file-lt-BOOK_HEADER_BYTES c = let a = c.args in short-book a.nodes a.file.now c.if-file-lt-BOOK_HEADER_BYTES.true

pub returns-then-count-gt-MAX_CONTRACTS : goal.returns-then-count-gt-MAX_CONTRACTS
returns-then-count-gt-MAX_CONTRACTS c =
    let a = c.args in
    many_contracts a.nodes a.file.now c.if-file-lt-BOOK_HEADER_BYTES.false _ c.contract_count-count.ensures.0 c.if-count-gt-MAX_CONTRACTS.true

pub returns-then-spare_bits-spare_pattern : goal.returns-then-spare_bits-spare_pattern
returns-then-spare_bits-spare_pattern c =
    spare-other _ _ c.if-file-lt-BOOK_HEADER_BYTES.false _ c.contract_count-count.ensures.0 c.if-count-gt-MAX_CONTRACTS.false _ c.book_form-form.ensures
    _ c.spare_bits.ensures _ c.spare_pattern.ensures.0 c.if-spare_bits-spare_pattern.true

pub returns-then-file-book_bytes : goal.returns-then-file-book_bytes
returns-then-file-book_bytes c =
    wrong_length _ _ c.if-file-lt-BOOK_HEADER_BYTES.false _ c.contract_count-count.ensures.0 c.if-count-gt-MAX_CONTRACTS.false _ c.book_form-form.ensures
    _ c.spare_bits.ensures _ c.spare_pattern.ensures.0 c.if-spare_bits-spare_pattern.false _ c.book_bytes.ensures c.if-file-book_bytes.true

pub returns : goal.returns
returns c =
    c.check_contracts.ensures
    ∙ right-header _ _ c.if-file-lt-BOOK_HEADER_BYTES.false _ c.contract_count-count.ensures.0 c.if-count-gt-MAX_CONTRACTS.false _ c.book_form-form.ensures
    _ c.spare_bits.ensures _ c.spare_pattern.ensures.0 c.if-spare_bits-spare_pattern.false _ c.book_bytes.ensures c.if-file-book_bytes.false
