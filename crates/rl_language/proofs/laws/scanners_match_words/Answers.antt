use Rattle.rl_language.proofs.ScannerWords.{scan_match, scan_token, scan_stuck}
use Rattle.rl_language.proofs.LongestMatch.{scan_finds}
use Rattle.rl_language.proofs.laws.scanners_match_words.Goals as goal

pub returns-clause-words : goal.returns-clause-words
returns-clause-words c = scan_match

pub returns-clause-tokens : goal.returns-clause-tokens
returns-clause-tokens c = scan_token

pub returns-clause-stuck : goal.returns-clause-stuck
returns-clause-stuck c = scan_stuck

pub returns-clause-longest : goal.returns-clause-longest
returns-clause-longest c = scan_finds
