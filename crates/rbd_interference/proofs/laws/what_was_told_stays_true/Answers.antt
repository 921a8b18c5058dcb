use Rattle.rbd_interference.proofs.AncestorsKept.{seen_expired, told_expired, told_kept, told_trimmed}
use Rattle.rbd_interference.proofs.Kept.{seen_kept, seen_trimmed}
use Rattle.rbd_interference.proofs.laws.what_was_told_stays_true.Goals as goal

pub returns-clause-headers : goal.returns-clause-headers
returns-clause-headers c = λ site r j you o seen permits drew was. seen_kept site r you j o permits seen drew was

pub returns-clause-reads : goal.returns-clause-reads
returns-clause-reads c = λ site r f j you o most seen told stands form standalone mapped u permits drew was. told_kept site r f you j o most stands form standalone mapped u permits seen told drew was

pub returns-clause-trim_headers : goal.returns-clause-trim_headers
returns-clause-trim_headers c = seen_trimmed

pub returns-clause-trim_reads : goal.returns-clause-trim_reads
returns-clause-trim_reads c = told_trimmed

pub returns-clause-expiry_headers : goal.returns-clause-expiry_headers
returns-clause-expiry_headers c = seen_expired

pub returns-clause-expiry_reads : goal.returns-clause-expiry_reads
returns-clause-expiry_reads c = told_expired
