-- How keywords and signs are written.
use Rattle.std.specs.Prelude.{ℕ, Bool, ◌==◌, List, codes}
use Rattle.query_tokens.specs.declared.keyword.Keyword.{Keyword}
use Rattle.query_tokens.specs.declared.keyword.Keyword.TheVariants.{Relation, Of, Rows, Trust, Release, Filter, Where, And, Select, Concat, Join, On, Group, By, Sum, Count, Least, Greatest, Distinct, Output, To, At, Most, Parts, Via, Clear, Num, Text, True, False, Open}
use Rattle.query_tokens.specs.declared.sign.Sign.{Sign}
use Rattle.query_tokens.specs.declared.sign.Sign.TheVariants.{LeftParen, RightParen, Comma, Assign, Equal, NotEqual, Less, LessEqual, Greater, GreaterEqual, Plus, Minus, Star, Ampersand, Bar}

-- a keyword's bytes
abbrev pub word_of : Keyword → List ℕ
word_of Relation = codes "relation"
word_of Of = codes "of"
word_of Rows = codes "rows"
word_of Trust = codes "trust"
word_of Release = codes "release"
word_of Filter = codes "filter"
word_of Where = codes "where"
word_of And = codes "and"
word_of Select = codes "select"
word_of Concat = codes "concat"
word_of Join = codes "join"
word_of On = codes "on"
word_of Group = codes "group"
word_of By = codes "by"
word_of Sum = codes "sum"
word_of Count = codes "count"
word_of Least = codes "least"
word_of Greatest = codes "greatest"
word_of Distinct = codes "distinct"
word_of Output = codes "output"
word_of To = codes "to"
word_of At = codes "at"
word_of Most = codes "most"
word_of Parts = codes "parts"
word_of Via = codes "via"
word_of Clear = codes "clear"
word_of Num = codes "num"
word_of Text = codes "text"
word_of True = codes "true"
word_of False = codes "false"
word_of Open = codes "open"

-- a sign's bytes
abbrev pub sign_text : Sign → List ℕ
sign_text LeftParen = codes "("
sign_text RightParen = codes ")"
sign_text Comma = codes ","
sign_text Assign = codes "="
sign_text Equal = codes "=="
sign_text NotEqual = codes "!="
sign_text Less = codes "<"
sign_text LessEqual = codes "<="
sign_text Greater = codes ">"
sign_text GreaterEqual = codes ">="
sign_text Plus = codes "+"
sign_text Minus = codes "-"
sign_text Star = codes "*"
sign_text Ampersand = codes "&"
sign_text Bar = codes "|"

-- a keyword's place in the list of all
abbrev pub keyword_number : Keyword → ℕ
keyword_number Relation = 0
keyword_number Of = 1
keyword_number Rows = 2
keyword_number Trust = 3
keyword_number Release = 4
keyword_number Filter = 5
keyword_number Where = 6
keyword_number And = 7
keyword_number Select = 8
keyword_number Concat = 9
keyword_number Join = 10
keyword_number On = 11
keyword_number Group = 12
keyword_number By = 13
keyword_number Sum = 14
keyword_number Count = 15
keyword_number Least = 16
keyword_number Greatest = 17
keyword_number Distinct = 18
keyword_number Output = 19
keyword_number To = 20
keyword_number At = 21
keyword_number Most = 22
keyword_number Parts = 23
keyword_number Via = 24
keyword_number Clear = 25
keyword_number Num = 26
keyword_number Text = 27
keyword_number True = 28
keyword_number False = 29
keyword_number Open = 30

abbrev pub same_keyword : Keyword → Keyword → Bool
same_keyword j k = keyword_number j == keyword_number k

-- a sign's place in the list of all
abbrev pub sign_number : Sign → ℕ
sign_number LeftParen = 0
sign_number RightParen = 1
sign_number Comma = 2
sign_number Assign = 3
sign_number Equal = 4
sign_number NotEqual = 5
sign_number Less = 6
sign_number LessEqual = 7
sign_number Greater = 8
sign_number GreaterEqual = 9
sign_number Plus = 10
sign_number Minus = 11
sign_number Star = 12
sign_number Ampersand = 13
sign_number Bar = 14

abbrev pub same_sign : Sign → Sign → Bool
same_sign s u = sign_number s == sign_number u
