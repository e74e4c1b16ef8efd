use Rattle.iom_account.proofs.Passed.{among_context, among_counted, among_origin, among_page, among_written}
use Rattle.iom_account.proofs.PassedAccount.{account_begins, account_counted, account_written}
use Rattle.iom_account.proofs.others.others_are_not_counted.Goals as goal

pub returns : goal.returns
returns c = record {
  begins = λ history platform h. record { written = tt; follows = h };
  counted = λ history after platform left start events step number h more.
      among_counted history after platform left start events step number h more;
  written = λ history platform start events memory h w. among_written history platform start events memory h w;
  origin = λ history platform start events step number found h from.
      among_origin history platform start events step number found h from;
  context = λ history platform start events did number context h from. among_context history platform start events did context number h from;
  page = λ history platform start events key hit base walk h from. among_page history platform start events key hit base walk h from;
  account_begins = λ account platform h. account_begins account platform h;
  account_counted = λ before left state new start events step number h is c.
      account_counted before left state new start events step number h is c;
  account_written = λ account platform start events memory h w. account_written account platform start events memory h w;
}
